use Rattle.std.proofs.lemmas.Result.{err_from_is_err_and}
use Rattle.py_statements.proofs.Turns.{fails_on, shows, evaluate_none, evaluate_read}
use Rattle.py_statements.proofs.Growth.{grows_then}
use Rattle.py_statements.proofs.assignments.evaluate.Goals as goal

pub returns-in_err-value-clause-read : goal.returns-in_err-value-clause-read
returns-in_err-value-clause-read c =
    let p = err_from_is_err_and c.from_residual.result c.from_residual.ensures.1 in
    rw (p.1, p.2) (fails_on _ _ _ c.in_err-value.ensures.read (λ n. evaluate_none _ n))

pub returns-clause-read : goal.returns-clause-read
returns-clause-read c = (c.in_ok-add.ensures.there, shows _ _ _ (evaluate_read _ _ _ c.line-line.ensures c.in_ok-value.ensures.read.1) c.in_ok-add.ensures.tree)

pub returns-in_err-add-clause-grown : goal.returns-in_err-add-clause-grown
returns-in_err-add-clause-grown c = grows_then _ _ _ c.whole_expression.ensures.grown c.add.ensures.grown

pub returns-clause-grown : goal.returns-clause-grown
returns-clause-grown c = grows_then _ _ _ c.whole_expression.ensures.grown c.add.ensures.grown
