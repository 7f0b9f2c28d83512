use Rattle.std.proofs.Common.{sym, ◌∙◌}
use Rattle.std.proofs.lemmas.Result.{err_from_is_err_and}
use Rattle.py_statements.proofs.Turns.{fails_on, shows, return_alone, return_none, return_read}
use Rattle.py_statements.proofs.Growth.{grows_then}
use Rattle.py_statements.proofs.keywords.return_statement.Goals as goal

pub returns-then-at_end-clause-read : goal.returns-then-at_end-clause-read
returns-then-at_end-clause-read c = (c.in_ok-add.ensures.there, shows _ _ _ (return_alone _ _ (sym c.at_end.ensures ∙ c.if-at_end.true)) c.in_ok-add.ensures.tree)

pub returns-in_err-value-clause-read : goal.returns-in_err-value-clause-read
returns-in_err-value-clause-read c =
    let p = err_from_is_err_and c.from_residual-in_err-value.result c.from_residual-in_err-value.ensures.1 in
    rw (p.1, p.2) (fails_on _ _ _ c.in_err-value.ensures.read (λ n. return_none _ _ (sym c.at_end.ensures ∙ c.if-at_end.false) n))

pub returns-clause-read : goal.returns-clause-read
returns-clause-read c = (c.in_ok-add-2.ensures.there, shows _ _ _ (return_read _ _ _ (sym c.at_end.ensures ∙ c.if-at_end.false) c.in_ok-value.ensures.read.1) c.in_ok-add-2.ensures.tree)

pub returns-in_err-add-2-clause-grown : goal.returns-in_err-add-2-clause-grown
returns-in_err-add-2-clause-grown c = grows_then _ _ _ c.whole_expression.ensures.grown c.add-2.ensures.grown

pub returns-clause-grown : goal.returns-clause-grown
returns-clause-grown c = grows_then _ _ _ c.whole_expression.ensures.grown c.add-2.ensures.grown
