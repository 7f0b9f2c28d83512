use Rattle.std.proofs.Common.{◌∙◌, List, ap, arith, map, sym}
use Rattle.std.specs.Global.{Vec}
use Rattle.std.proofs.lemmas.List.{take_all}
use Rattle.std.proofs.lemmas.Simd.{map-map}
use Rattle.spec_types.specs.Needs.{all_spoken}
use Rattle.given_types.specs.declared.GivenType.{GivenType}
use Rattle.given_types.specs.Giving.{given_in}
use Rattle.type_needs.proofs.class_graph.edges.Goals as goal

pub returns : goal.returns
returns c =
    let m = c.args.module.now in
    c.loop-types.invariant
    ∙ ap (λ (vs : List (Vec GivenType)). map (λ (v : Vec GivenType). all_spoken (map (given_in m) v.items)) vs) (take_all c.loop-types.types-index c.args.taken.now (omega (arith, c.loop-types-test.false)))
    ∙ sym (map-map all_spoken (λ (v : Vec GivenType). map (given_in m) v.items) c.args.taken.now)
