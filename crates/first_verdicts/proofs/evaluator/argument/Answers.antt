use Rattle.std.proofs.Common.{◌≡◌, ◌<◌, length, false, sym, ap, ◌∙◌, arith}
use Rattle.std.specs.Str.{bytes_eq}
use Rattle.first_verdicts.proofs.Lookups.{next_parameter}
use Rattle.first_verdicts.proofs.evaluator.argument.Goals as goal

pub loop-place-preserved : goal.loop-place-preserved
loop-place-preserved c =
    let inside : c.loop-place.place < length c.args.parameters.now = omega arith in
    let other : bytes_eq c.index-parameters-place.result c.args.name.now ≡ false = ap (λ x. bytes_eq x c.args.name.now) (sym c.as_slice.ensures) ∙ sym c.eq.ensures ∙ c.if-eq.false in
    next_parameter _ c.args.arguments.now _ _ _ inside c.index-parameters-place.is other ∙ c.loop-place.invariant
