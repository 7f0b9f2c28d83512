use Rattle.std.proofs.Common.{sym, ◌∙◌}
use Rattle.std.proofs.lemmas.Result.{err_from_is_err_and}
use Rattle.py_statements.proofs.Later.{expr_later}
use Rattle.py_statements.proofs.Turns.{fails_on, shows, message_absent, message_no_comma, message_none, message_read}
use Rattle.py_statements.proofs.Growth.{grows_then}
use Rattle.py_statements.proofs.keywords.asserted.Goals as goal

pub returns-then-at_end-clause-read : goal.returns-then-at_end-clause-read
returns-then-at_end-clause-read c = (c.in_ok-add.ensures.there, shows _ _ _ (message_absent _ _ _ (sym c.at_end.ensures ∙ c.if-at_end.true)) c.in_ok-add.ensures.tree)

pub returns-in_default-clause-read : goal.returns-in_default-clause-read
returns-in_default-clause-read c = message_no_comma _ _ _ (sym c.at_end.ensures ∙ c.if-at_end.false) c.in_default.ensures

pub returns-in_err-message-clause-read : goal.returns-in_err-message-clause-read
returns-in_err-message-clause-read c =
    let p = err_from_is_err_and c.from_residual-in_err-message.result c.from_residual-in_err-message.ensures.1 in
    rw (p.1, p.2) (fails_on _ _ _ c.in_err-message.ensures.read (λ n. message_none _ _ _ _ c.in-Some.ensures n))

pub add-requires-2 : goal.add-requires-2
add-requires-2 c =
    let l = expr_later _ _ c.in_ok-message.ensures.grown c.requires.module _ c.requires.condition in
    record { parts = (l.0, c.in_ok-message.ensures.read.0); plain = tt }

pub returns-clause-read : goal.returns-clause-read
returns-clause-read c =
    let l = expr_later _ _ c.in_ok-message.ensures.grown c.requires.module _ c.requires.condition in
    (c.in_ok-add-2.ensures.there, rw (sym l.1) (shows _ _ _ (message_read _ _ _ _ _ c.in-Some.ensures c.in_ok-message.ensures.read.1) c.in_ok-add-2.ensures.tree))

pub returns-in_err-add-2-clause-grown : goal.returns-in_err-add-2-clause-grown
returns-in_err-add-2-clause-grown c = grows_then _ _ _ c.whole_expression.ensures.grown c.add-2.ensures.grown

pub returns-clause-grown : goal.returns-clause-grown
returns-clause-grown c = grows_then _ _ _ c.whole_expression.ensures.grown c.add-2.ensures.grown
