use Rattle.std.proofs.Common.{◌++◌, ap, ◌∙◌}
use Rattle.first_tree.specs.Functions.{function_in}
use Rattle.first_verdicts.specs.Meaning.{call_in, fault_in}
use Rattle.crosshair.proofs.Texts.{error_added}
use Rattle.crosshair.proofs.lines.error_line.Goals as goal

pub returns : goal.returns
returns c = λ nodes. error_added c.args.name.now c.args.line (function_in nodes c.args.function.now) (call_in c.args.call.now) (fault_in c.args.fault) _ _ _ _
    (c.in_ok-extend.ensures.ok ∙ ap (λ x. x ++ c.as_bytes.result.now) c.new-text.ensures) (c.as_bytes.ensures.value ∙ c.in_ok-format.ensures.ok)
    (c.in_ok-add_fault.ensures nodes) c.in_ok-extend-2.ensures.ok
