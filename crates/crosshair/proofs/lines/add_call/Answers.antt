use Rattle.std.proofs.Common.{◌++◌, map, ap, ◌∙◌}
use Rattle.spec_calls.specs.Calls.{Number}
use Rattle.spec_calls.specs.Printing.{arguments_text}
use Rattle.first_tree.specs.Functions.{int_parameter}
use Rattle.first_verdicts.specs.Meaning.{call_in}
use Rattle.crosshair.proofs.Texts.{call_added}
use Rattle.crosshair.proofs.lines.add_call.Goals as goal

pub returns : goal.returns
returns c = λ nodes.
    let arguments = c.in_ok-add_arguments.ensures
    ∙ ap (λ ps. c.extend-2.new.self ++ arguments_text (map int_parameter ps) (map Number c.deref-2.result.now)) c.deref.ensures.value
    ∙ ap (λ xs. c.extend-2.new.self ++ arguments_text (map int_parameter c.args.function.now.parameters.items) (map Number xs)) c.deref-2.ensures.value in
    call_added nodes c.args.function.now (call_in c.args.call.now) _ _ _ _ _ _ c.in_ok-extend.ensures.ok c.as_slice.ensures c.in_ok-extend-2.ensures.ok arguments c.in_ok-extend-3.ensures.ok
