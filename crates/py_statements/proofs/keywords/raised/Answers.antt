use Rattle.std.proofs.Common.{sym, ◌∙◌}
use Rattle.std.proofs.lemmas.Result.{err_from_is_err_and}
use Rattle.py_statements.proofs.Later.{text_later}
use Rattle.py_statements.proofs.Turns.{fails_on, shows, raised_alone, raised_no_bracket, raised_none, raised_left, raised_read}
use Rattle.py_statements.proofs.Growth.{grows_then}
use Rattle.py_statements.proofs.keywords.raised.Goals as goal

pub returns-then-at_end-clause-read : goal.returns-then-at_end-clause-read
returns-then-at_end-clause-read c = (c.in_ok-add.ensures.there, shows _ _ _ (raised_alone _ _ _ (sym c.at_end.ensures ∙ c.if-at_end.true)) c.in_ok-add.ensures.tree)

pub returns-in_default-clause-read : goal.returns-in_default-clause-read
returns-in_default-clause-read c = raised_no_bracket _ _ _ (sym c.at_end.ensures ∙ c.if-at_end.false) c.in_default.ensures

pub returns-in_err-arguments-clause-read : goal.returns-in_err-arguments-clause-read
returns-in_err-arguments-clause-read c =
    let p = err_from_is_err_and c.from_residual-in_err-arguments.result c.from_residual-in_err-arguments.ensures.1 in
    rw (p.1, p.2) (fails_on _ _ _ c.in_err-arguments.ensures.read (λ n. raised_none _ _ _ _ c.in-Some.ensures n))

pub returns-then-not-at_end-clause-read : goal.returns-then-not-at_end-clause-read
returns-then-not-at_end-clause-read c = raised_left _ _ _ _ _ _ c.in-Some.ensures c.in_ok-arguments.ensures.read.1 (sym c.at_end-2.ensures ∙ c.if-not-at_end.true)

pub add-requires-2 : goal.add-requires-2
add-requires-2 c =
    let l = text_later _ _ c.in_ok-arguments.ensures.grown c.requires.module _ c.requires.class in
    record { parts = (l.0, c.in_ok-arguments.ensures.read.0); plain = tt }

pub returns-clause-read : goal.returns-clause-read
returns-clause-read c =
    let l = text_later _ _ c.in_ok-arguments.ensures.grown c.requires.module _ c.requires.class in
    (c.in_ok-add-2.ensures.there, rw (sym l.1) (shows _ _ _ (raised_read _ _ _ _ _ _ c.in-Some.ensures c.in_ok-arguments.ensures.read.1 (sym c.at_end-2.ensures ∙ c.if-not-at_end.false)) c.in_ok-add-2.ensures.tree))

pub returns-in_err-add-2-clause-grown : goal.returns-in_err-add-2-clause-grown
returns-in_err-add-2-clause-grown c = grows_then _ _ _ c.call_arguments.ensures.grown c.add-2.ensures.grown

pub returns-clause-grown : goal.returns-clause-grown
returns-clause-grown c = grows_then _ _ _ c.call_arguments.ensures.grown c.add-2.ensures.grown
