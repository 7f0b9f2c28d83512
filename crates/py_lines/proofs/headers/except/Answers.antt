use Rattle.std.proofs.Common.{refl}
use Rattle.std.proofs.lemmas.Result.{err_from_is_err_and}
use Rattle.spec_grammar.specs.HeaderReading.{except_of}
use Rattle.py_lines.proofs.Turns.{fails_on}
use Rattle.py_lines.proofs.headers.except.Goals as goal

pub returns-in_err-classes-clause-read : goal.returns-in_err-classes-clause-read
unfolding except_of
returns-in_err-classes-clause-read c =
    let p = err_from_is_err_and c.from_residual.result c.from_residual.ensures.1 in
    rw (p.1, p.2) (fails_on _ _ _ c.in_err-classes.ensures.read (λ n. rw n refl))

pub returns-in_err-end-clause-read : goal.returns-in_err-end-clause-read
unfolding except_of
returns-in_err-end-clause-read c =
    let p = err_from_is_err_and c.from_residual-in_err-end.result c.from_residual-in_err-end.ensures.1 in
    rw (p.1, p.2) (fails_on _ _ _ c.in_err-end.ensures (λ n. rw (c.in_ok-classes.ensures.read.1, n) refl))

pub returns-clause-read : goal.returns-clause-read
unfolding except_of
returns-clause-read c = (c.in_ok-classes.ensures.read.0, rw (c.in_ok-classes.ensures.read.1, c.in_ok-end.ensures) refl)
