use Rattle.std.proofs.Common.{sym, ap, ◌∙◌}
use Rattle.spec_syntax.specs.Placement.{smallest}
use Rattle.py_outline.specs.Told.{least, outline_faults}
use Rattle.py_outline.proofs.Outlined.{smallest_is_outlined, outlined_parts}
use Rattle.py_outline.proofs.placement.first_misplaced.Goals as goal

pub returns : goal.returns
returns c =
    let told = outlined_parts c.args.outlines.now c.first_fault.result c.in_ok-placed.placed c.in_ok-ordered.ordered c.first_fault.ensures c.in_ok-placed.ensures c.in_ok-ordered.ensures in
    λ ps e. c.least-2.ensures ∙ ap (least c.first_fault.result) c.least.ensures ∙ told ∙ ap (λ os. smallest (outline_faults os)) (sym e) ∙ sym (smallest_is_outlined ps)
