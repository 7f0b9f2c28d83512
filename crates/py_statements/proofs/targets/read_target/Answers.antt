use Rattle.std.proofs.Common.{sym, ◌∙◌}
use Rattle.std.proofs.lemmas.Result.{err_from_is_err_and}
use Rattle.py_statements.proofs.Turns.{fails_on, target_none, target_other, target_read}
use Rattle.py_statements.proofs.targets.read_target.Goals as goal

pub returns-in_err-target-clause-read : goal.returns-in_err-target-clause-read
returns-in_err-target-clause-read c =
    let p = err_from_is_err_and c.from_residual.result c.from_residual.ensures.1 in
    rw (p.1, p.2) (fails_on _ _ _ c.in_err-target.ensures.read (λ n. target_none _ n))

pub returns-then-not-is_target-clause-read : goal.returns-then-not-is_target-clause-read
returns-then-not-is_target-clause-read c = target_other _ _ _ c.in_ok-target.ensures.read.1 (sym c.is_target.ensures ∙ c.if-not-is_target.true)

pub returns-clause-read : goal.returns-clause-read
returns-clause-read c = (c.in_ok-target.ensures.read.0, target_read _ _ _ c.in_ok-target.ensures.read.1 (sym c.is_target.ensures ∙ c.if-not-is_target.false))
