use Rattle.std.proofs.lemmas.Result.{err_from_is_err_and}
use Rattle.py_statements.proofs.Turns.{fails_on, bracketed_none, bracketed_open, bracketed_read}
use Rattle.py_statements.proofs.names.read_bracketed.Goals as goal

pub returns-in_err-names-clause-read : goal.returns-in_err-names-clause-read
returns-in_err-names-clause-read c =
    let p = err_from_is_err_and c.from_residual.result c.from_residual.ensures.1 in
    rw (p.1, p.2) (fails_on _ _ _ c.in_err-names.ensures.read (λ n. bracketed_none _ n))

pub returns-in_default-clause-read : goal.returns-in_default-clause-read
returns-in_default-clause-read c = bracketed_open _ _ _ c.in_ok-names.ensures.read.1 c.in_default.ensures

pub returns-clause-read : goal.returns-clause-read
returns-clause-read c = (c.in_ok-names.ensures.read.0, bracketed_read _ _ _ _ c.in_ok-names.ensures.read.1 c.in-Some.ensures)
