use Rattle.std.proofs.Common.{refl}
use Rattle.std.proofs.lemmas.Result.{err_from_is_err_and}
use Rattle.spec_grammar.specs.HeaderReading.{for_of}
use Rattle.py_statements.proofs.Later.{text_later}
use Rattle.py_lines.proofs.Turns.{for_read, for_stuck, fails_on}
use Rattle.py_statements.proofs.Growth.{grows_then}
use Rattle.py_lines.proofs.headers.for_loop.Goals as goal

pub returns-in_default-clause-read : goal.returns-in_default-clause-read
unfolding for_of
returns-in_default-clause-read c = rw c.in_default.ensures refl

pub returns-in_default-sign-clause-read : goal.returns-in_default-sign-clause-read
unfolding for_of
returns-in_default-sign-clause-read c = rw (c.in-Some.ensures, c.in_default-sign.ensures) refl

pub returns-in_err-iterable-clause-read : goal.returns-in_err-iterable-clause-read
returns-in_err-iterable-clause-read c =
    let p = err_from_is_err_and c.from_residual-in_err-iterable.result c.from_residual-in_err-iterable.ensures.1 in
    rw (p.1, p.2) (fails_on _ _ _ c.in_err-iterable.ensures.read (λ n. for_stuck _ _ _ _ _ c.in-Some.ensures c.in-Some-sign.ensures n))

pub returns-clause-read : goal.returns-clause-read
returns-clause-read c =
    let x = text_later _ _ c.in_ok-iterable.ensures.grown c.in_ok-variable.ensures.grown.valid _ c.in_ok-variable.ensures.there in
    ((x.0, c.in_ok-iterable.ensures.read.0), rw (x.1, c.in_ok-variable.ensures.text) (for_read _ _ _ _ _ _ _ c.in-Some.ensures c.in-Some-sign.ensures c.in_ok-iterable.ensures.read.1))

pub returns-in_err-iterable-clause-grown : goal.returns-in_err-iterable-clause-grown
returns-in_err-iterable-clause-grown c = grows_then _ _ _ c.add_name.ensures.grown c.last_expression.ensures.grown

pub returns-clause-grown : goal.returns-clause-grown
returns-clause-grown c = grows_then _ _ _ c.add_name.ensures.grown c.last_expression.ensures.grown
