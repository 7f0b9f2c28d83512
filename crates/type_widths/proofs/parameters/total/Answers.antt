use Rattle.std.proofs.Common.{◌∙◌}
use Rattle.type_widths.proofs.Totals.{total_more}
use Rattle.type_widths.proofs.parameters.total.Goals as goal

pub loop-given-preserved : goal.loop-given-preserved
loop-given-preserved c = λ of_class a. c.sum-total.ensures ∙ total_more c.args.max_len of_class c.args.module.now c.args.types.now c.loop-given.given-index c.loop-given.total c.given_width.result c.loop-given-test.true (c.loop-given.invariant of_class a) (c.given_width.ensures of_class a)
