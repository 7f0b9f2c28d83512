use Rattle.std.proofs.Common.{refl}
use Rattle.std.proofs.lemmas.Result.{err_from_is_err_and}
use Rattle.spec_grammar.specs.HeaderReading.{class_of}
use Rattle.py_lines.proofs.Turns.{fails_on}
use Rattle.py_lines.proofs.headers.class.Goals as goal

pub returns-in_default-clause-read : goal.returns-in_default-clause-read
unfolding class_of
returns-in_default-clause-read c = rw c.in_default.ensures refl

pub returns-in_default-brackets-clause-read : goal.returns-in_default-brackets-clause-read
unfolding class_of
returns-in_default-brackets-clause-read c = rw (c.in-Some.ensures, c.in_default-brackets.ensures) refl

pub returns-in_err-end-clause-read : goal.returns-in_err-end-clause-read
unfolding class_of
returns-in_err-end-clause-read c =
    let p = err_from_is_err_and c.from_residual.result c.from_residual.ensures.1 in
    rw (p.1, p.2) (fails_on _ _ _ c.in_err-end.ensures (λ n. rw (c.in-Some.ensures, c.in-Some-brackets.ensures, n) refl))

pub returns-clause-read : goal.returns-clause-read
unfolding class_of
returns-clause-read c = (c.in_ok-name.ensures.there, rw (c.in-Some.ensures, c.in-Some-brackets.ensures, c.in_ok-end.ensures, c.in_ok-name.ensures.text) refl)
