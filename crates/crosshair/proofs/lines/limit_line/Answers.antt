use Rattle.std.proofs.Common.{◌++◌, ap, ◌∙◌}
use Rattle.first_tree.specs.Functions.{function_in}
use Rattle.first_verdicts.specs.Meaning.{call_in}
use Rattle.crosshair.proofs.Texts.{limit_added}
use Rattle.crosshair.proofs.lines.limit_line.Goals as goal

pub returns : goal.returns
returns c = λ nodes. limit_added c.args.name.now c.args.line (function_in nodes c.args.function.now) (call_in c.args.call.now) c.args.kind _ _ _ _ _ _ _
    (c.in_ok-extend.ensures.ok ∙ ap (λ x. x ++ c.as_bytes.result.now) c.new-text.ensures) (c.as_bytes.ensures.value ∙ c.in_ok-format.ensures.ok)
    c.in_ok-extend-2.ensures.ok (c.as_bytes-2.ensures.value ∙ c.limit_name.ensures) c.in_ok-extend-3.ensures.ok (c.in_ok-add_call.ensures nodes) c.in_ok-extend-4.ensures.ok
