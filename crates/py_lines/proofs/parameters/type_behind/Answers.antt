use Rattle.std.proofs.Common.{refl}
use Rattle.std.proofs.lemmas.Result.{err_from_is_err_and}
use Rattle.spec_grammar.specs.HeaderReading.{type_behind}
use Rattle.py_lines.proofs.Turns.{fails_on}
use Rattle.py_lines.proofs.parameters.type_behind.Goals as goal

pub returns-in_default-clause-read : goal.returns-in_default-clause-read
unfolding type_behind
returns-in_default-clause-read c = (tt, rw c.in_default.ensures refl)

pub returns-in_err-found-clause-read : goal.returns-in_err-found-clause-read
unfolding type_behind
returns-in_err-found-clause-read c =
    let p = err_from_is_err_and c.from_residual.result c.from_residual.ensures.1 in
    rw (p.1, p.2) (fails_on _ _ _ c.in_err-found.ensures.read (λ n. rw (c.in-Some.ensures, n) refl))

pub returns-clause-read : goal.returns-clause-read
unfolding type_behind
returns-clause-read c = (c.in_ok-found.ensures.read.0, rw (c.in-Some.ensures, c.in_ok-found.ensures.read.1) refl)
