use Rattle.std.proofs.Common.{◌≡◌, ◌++◌, get_or, ap, arith, pos, rules, to_z, of_z, ◌∙◌}
use mir.Syntax.{w64}
use Rattle.crosshair.proofs.Texts.{argument_added, more_added, more_whole}
use Rattle.crosshair.proofs.lines.add_more.Goals as goal

pub loop-i-preserved : goal.loop-i-preserved
loop-i-preserved c = argument_added c.args.text.now _ _ _ _ _ _ c.loop-i.invariant c.in_ok-extend.ensures.ok c.in_ok-add_argument.ensures
    (more_added c.args.parameters.now c.args.arguments.now c.loop-i.i c.index-parameters-i.result _ c.index-parameters-i.result (pos 0) (omega (arith, c.min-i-end.ensures, c.loop-i-test.true)) (omega (arith, c.min-i-end.ensures, c.loop-i-test.true)) c.index-parameters-i.is (search rules))

pub returns : goal.returns
returns c = c.loop-i.invariant ∙ ap (λ x. c.args.text.now ++ x) (more_whole c.args.parameters.now c.args.arguments.now c.loop-i.i (omega (arith, c.min-i-end.ensures, c.loop-i-test.false)))
