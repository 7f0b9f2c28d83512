use Rattle.std.proofs.lemmas.Result.{err_from_is_err_and}
use Rattle.py_statements.proofs.Turns.{fails_on, value_absent, value_none, value_read}
use Rattle.py_statements.proofs.expressions.read_value.Goals as goal

pub returns-in_default-clause-read : goal.returns-in_default-clause-read
returns-in_default-clause-read c = (tt, value_absent _ c.in_default.ensures)

pub returns-in_err-value-clause-read : goal.returns-in_err-value-clause-read
returns-in_err-value-clause-read c =
    let p = err_from_is_err_and c.from_residual.result c.from_residual.ensures.1 in
    rw (p.1, p.2) (fails_on _ _ _ c.in_err-value.ensures.read (λ n. value_none _ _ c.in-Some.ensures n))

pub returns-clause-read : goal.returns-clause-read
returns-clause-read c = (c.in_ok-value.ensures.read.0, value_read _ _ _ _ c.in-Some.ensures c.in_ok-value.ensures.read.1)
