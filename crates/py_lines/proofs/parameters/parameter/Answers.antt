use Rattle.std.proofs.Common.{refl}
use Rattle.std.proofs.lemmas.Result.{err_from_is_err_and}
use Rattle.spec_grammar.specs.HeaderReading.{read_parameter}
use Rattle.py_statements.proofs.Growth.{grows_then}
use Rattle.py_statements.proofs.Later.{text_later}
use Rattle.py_lines.proofs.Later.{type_later}
use Rattle.py_lines.proofs.Turns.{fails_on}
use Rattle.py_lines.proofs.parameters.parameter.Goals as goal

pub returns-in_default-clause-read : goal.returns-in_default-clause-read
unfolding read_parameter
returns-in_default-clause-read c = rw c.in_default.ensures refl

pub returns-in_err-annotation-clause-read : goal.returns-in_err-annotation-clause-read
unfolding read_parameter
returns-in_err-annotation-clause-read c =
    let p = err_from_is_err_and c.from_residual-in_err-annotation.result c.from_residual-in_err-annotation.ensures.1 in
    rw (p.1, p.2) (fails_on _ _ _ c.in_err-annotation.ensures.read (λ n. rw (c.in-Some.ensures, n) refl))

pub returns-in_err-default-clause-read : goal.returns-in_err-default-clause-read
unfolding read_parameter
returns-in_err-default-clause-read c =
    let p = err_from_is_err_and c.from_residual-in_err-default.result c.from_residual-in_err-default.ensures.1 in
    rw (p.1, p.2) (fails_on _ _ _ c.in_err-default.ensures.read (λ n. rw (c.in-Some.ensures, c.in_ok-annotation.ensures.read.1, n) refl))

pub returns-clause-read : goal.returns-clause-read
unfolding read_parameter
returns-clause-read c =
    let x = text_later _ _ (grows_then _ _ _ c.in_ok-annotation.ensures.grown c.in_ok-default.ensures.grown) c.in_ok-name.ensures.grown.valid _ c.in_ok-name.ensures.there in
    let a = type_later _ _ c.in_ok-default.ensures.grown c.in_ok-annotation.ensures.grown.valid _ c.in_ok-annotation.ensures.read.0 in
    ((x.0, a.0, c.in_ok-default.ensures.read.0), rw (x.1, c.in_ok-name.ensures.text, a.1, c.in-Some.ensures, c.in_ok-annotation.ensures.read.1, c.in_ok-default.ensures.read.1) refl)

pub returns-in_err-annotation-clause-grown : goal.returns-in_err-annotation-clause-grown
returns-in_err-annotation-clause-grown c = grows_then _ _ _ c.add_name.ensures.grown c.type_behind.ensures.grown

pub returns-in_err-default-clause-grown : goal.returns-in_err-default-clause-grown
returns-in_err-default-clause-grown c = grows_then _ _ _ c.add_name.ensures.grown (grows_then _ _ _ c.type_behind.ensures.grown c.read_value.ensures.grown)

pub returns-clause-grown : goal.returns-clause-grown
returns-clause-grown c = grows_then _ _ _ c.add_name.ensures.grown (grows_then _ _ _ c.type_behind.ensures.grown c.read_value.ensures.grown)
