use Rattle.std.proofs.Common.{◌++◌, ap, ◌∙◌}
use Rattle.crosshair.proofs.Texts.{three_added}
use Rattle.crosshair.proofs.lines.add_fault.Goals as goal

pub returns-in_ok-add_returned-in-WasFalse : goal.returns-in_ok-add_returned-in-WasFalse
returns-in_ok-add_returned-in-WasFalse c = λ nodes. rw c.in-WasFalse.is (three_added _ _ _ _ _ _ _ c.in_ok-extend-in-WasFalse.ensures.ok
    (c.in_ok-add_call-in-WasFalse.ensures nodes) c.in_ok-add_returned-in-WasFalse.ensures)

pub returns-in_ok-add_call-in-RaisedInBody : goal.returns-in_ok-add_call-in-RaisedInBody
returns-in_ok-add_call-in-RaisedInBody c = λ nodes. rw c.in-RaisedInBody.is (three_added _ _ _ _ _ _ _
    (c.in_ok-extend-in-RaisedInBody.ensures.ok ∙ ap (λ x. c.args.text.now ++ x) (c.as_bytes.ensures.value ∙ c.class_name.ensures)) c.in_ok-extend-in-RaisedInBody-2.ensures.ok
    (c.in_ok-add_call-in-RaisedInBody.ensures nodes))
