use Rattle.std.proofs.Common.{drop}
use Rattle.std.proofs.lemmas.Result.{err_from_is_err_and}
use Rattle.py_statements.proofs.Turns.{fails_on, assert_none, assert_turn}
use Rattle.py_statements.proofs.Growth.{grows_then}
use Rattle.py_statements.proofs.keywords.assert_statement.Goals as goal

pub returns-in_err-condition-clause-read : goal.returns-in_err-condition-clause-read
returns-in_err-condition-clause-read c =
    let p = err_from_is_err_and c.from_residual.result c.from_residual.ensures.1 in
    rw (p.1, p.2) (fails_on _ _ _ c.in_err-condition.ensures.read (λ n. assert_none _ _ n))

pub returns-clause-read : goal.returns-clause-read
returns-clause-read c = rw (assert_turn c.args.line _ (drop c.args.pos c.args.words.now) _ c.in_ok-condition.ensures.read.1) c.asserted.ensures.read

pub returns-clause-grown : goal.returns-clause-grown
returns-clause-grown c = grows_then _ _ _ c.expression.ensures.grown c.asserted.ensures.grown
