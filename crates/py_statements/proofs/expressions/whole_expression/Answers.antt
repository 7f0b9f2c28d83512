use Rattle.std.proofs.Common.{sym, ◌∙◌}
use Rattle.std.proofs.lemmas.Result.{err_from_is_err_and}
use Rattle.py_statements.proofs.Turns.{fails_on, whole_none, whole_left, whole_read}
use Rattle.py_statements.proofs.expressions.whole_expression.Goals as goal

pub returns-in_err-value-clause-read : goal.returns-in_err-value-clause-read
returns-in_err-value-clause-read c =
    let p = err_from_is_err_and c.from_residual.result c.from_residual.ensures.1 in
    rw (p.1, p.2) (fails_on _ _ _ c.in_err-value.ensures.read (λ n. whole_none _ n))

pub returns-then-not-at_end-clause-read : goal.returns-then-not-at_end-clause-read
returns-then-not-at_end-clause-read c = whole_left _ _ _ c.in_ok-value.ensures.read.1 (sym c.at_end.ensures ∙ c.if-not-at_end.true)

pub returns-clause-read : goal.returns-clause-read
returns-clause-read c = (c.in_ok-value.ensures.read.0, whole_read _ _ _ c.in_ok-value.ensures.read.1 (sym c.at_end.ensures ∙ c.if-not-at_end.false))
