use Rattle.std.proofs.Common.{◌∙◌}
use Rattle.type_widths.proofs.Totals.{plus_both}
use Rattle.type_widths.proofs.checked.width_of.Goals as goal

pub returns : goal.returns
returns c = λ of_class a. c.sum.ensures ∙ plus_both _ _ _ _ (c.self_width.ensures of_class a c.args.module.now) (rw c.deref.ensures.value at c.total.ensures of_class a)
