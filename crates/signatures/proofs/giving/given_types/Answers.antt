use Rattle.std.proofs.Common.{◌∙◌, arith, sym}
use Rattle.std.proofs.lemmas.Simd.{map-map}
use Rattle.py_tree.specs.Arena.{module_tree}
use Rattle.given_types.specs.Giving.{IsGiven, given_in}
use Rattle.read_annotations.specs.Reading.{shown_in}
use Rattle.signatures.specs.Written.{given_from}
use Rattle.signatures.proofs.Mapping.{made_all}
use Rattle.signatures.proofs.giving.given_types.Goals as goal

pub returns-clause-given : goal.returns-clause-given
returns-clause-given c =
    let m = c.args.module.now in
    let from = given_from (module_tree m).body in
    made_all (λ o. from (shown_in m o)) (given_in m) (IsGiven m) c.args.annotations.now c.loop-annotation.types.items c.loop-annotation.annotation-index c.loop-annotation.invariant (omega (arith, c.loop-annotation-test.false))
    ∙ sym (map-map from (shown_in m) c.args.annotations.now)
