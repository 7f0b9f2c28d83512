use Rattle.std.proofs.Common.{◌∙◌, arith, map, sym}
use Rattle.std.specs.List.{All}
use Rattle.std.proofs.lemmas.Simd.{map-map}
use Rattle.py_tree.specs.Arena.{module_tree}
use Rattle.given_types.specs.Giving.{IsGiven, given_in}
use Rattle.read_annotations.specs.Reading.{shown_all}
use Rattle.signatures.specs.Written.{given_from}
use Rattle.signatures.proofs.Mapping.{made_all}
use Rattle.signatures.proofs.giving.taken.Goals as goal

pub returns-clause-given : goal.returns-clause-given
returns-clause-given c =
    let m = c.args.module.now in
    let from = map (given_from (module_tree m).body) in
    made_all (λ w. from (shown_all m w.items)) (λ v. map (given_in m) v.items) (λ v. All (IsGiven m) v.items) c.args.annotations.now c.loop-list.lists.items c.loop-list.list-index c.loop-list.invariant (omega (arith, c.loop-list-test.false))
    ∙ sym (map-map from (λ w. shown_all m w.items) c.args.annotations.now)
