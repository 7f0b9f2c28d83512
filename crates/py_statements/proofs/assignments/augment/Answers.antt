use Rattle.std.proofs.Common.{sym}
use Rattle.std.proofs.lemmas.Result.{err_from_is_err_and}
use Rattle.py_statements.proofs.Later.{expr_later}
use Rattle.py_statements.proofs.Turns.{fails_on, shows, augment_none, augment_read}
use Rattle.py_statements.proofs.Growth.{grows_then}
use Rattle.py_statements.proofs.assignments.augment.Goals as goal

pub returns-in_err-value-clause-read : goal.returns-in_err-value-clause-read
returns-in_err-value-clause-read c =
    let p = err_from_is_err_and c.from_residual.result c.from_residual.ensures.1 in
    rw (p.1, p.2) (fails_on _ _ _ c.in_err-value.ensures.read (λ n. augment_none _ _ _ _ n))

pub add-requires : goal.add-requires
add-requires c =
    let l = expr_later _ _ c.in_ok-value.ensures.grown c.requires.module _ c.requires.target in
    record { parts = (l.0, c.in_ok-value.ensures.read.0); plain = tt }

pub returns-clause-read : goal.returns-clause-read
returns-clause-read c =
    let l = expr_later _ _ c.in_ok-value.ensures.grown c.requires.module _ c.requires.target in
    (c.in_ok-add.ensures.there, rw (sym l.1) (shows _ _ _ (augment_read _ _ _ _ _ c.in_ok-value.ensures.read.1) c.in_ok-add.ensures.tree))

pub returns-in_err-add-clause-grown : goal.returns-in_err-add-clause-grown
returns-in_err-add-clause-grown c = grows_then _ _ _ c.whole_expression.ensures.grown c.add.ensures.grown

pub returns-clause-grown : goal.returns-clause-grown
returns-clause-grown c = grows_then _ _ _ c.whole_expression.ensures.grown c.add.ensures.grown
