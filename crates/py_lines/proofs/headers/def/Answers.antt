use Rattle.std.proofs.Common.{refl}
use Rattle.std.proofs.lemmas.Result.{err_from_is_err_and}
use Rattle.spec_grammar.specs.HeaderReading.{def_of}
use Rattle.py_statements.proofs.Growth.{grows_then}
use Rattle.py_statements.proofs.Later.{text_later}
use Rattle.py_lines.proofs.Later.{parameters_later}
use Rattle.py_lines.proofs.Turns.{fails_on}
use Rattle.py_lines.proofs.headers.def.Goals as goal

pub returns-in_default-clause-read : goal.returns-in_default-clause-read
unfolding def_of
returns-in_default-clause-read c = rw c.in_default.ensures refl

pub returns-in_default-sign-clause-read : goal.returns-in_default-sign-clause-read
unfolding def_of
returns-in_default-sign-clause-read c = rw (c.in-Some.ensures, c.in_default-sign.ensures) refl

pub returns-in_err-parameters-clause-read : goal.returns-in_err-parameters-clause-read
unfolding def_of
returns-in_err-parameters-clause-read c =
    let p = err_from_is_err_and c.from_residual-in_err-parameters.result c.from_residual-in_err-parameters.ensures.1 in
    rw (p.1, p.2) (fails_on _ _ _ c.in_err-parameters.ensures.read (λ n. rw (c.in-Some.ensures, c.in-Some-sign.ensures, n) refl))

pub returns-in_err-result-clause-read : goal.returns-in_err-result-clause-read
unfolding def_of
returns-in_err-result-clause-read c =
    let p = err_from_is_err_and c.from_residual-in_err-result.result c.from_residual-in_err-result.ensures.1 in
    rw (p.1, p.2) (fails_on _ _ _ c.in_err-result.ensures.read (λ n. rw (c.in-Some.ensures, c.in-Some-sign.ensures, c.in_ok-parameters.ensures.read.1, n) refl))

pub returns-in_err-end-clause-read : goal.returns-in_err-end-clause-read
unfolding def_of
returns-in_err-end-clause-read c =
    let p = err_from_is_err_and c.from_residual-in_err-end.result c.from_residual-in_err-end.ensures.1 in
    rw (p.1, p.2) (fails_on _ _ _ c.in_err-end.ensures (λ n. rw (c.in-Some.ensures, c.in-Some-sign.ensures, c.in_ok-parameters.ensures.read.1, c.in_ok-result.ensures.read.1, n) refl))

pub returns-clause-read : goal.returns-clause-read
unfolding def_of
returns-clause-read c =
    let x = text_later _ _ (grows_then _ _ _ c.in_ok-parameters.ensures.grown c.in_ok-result.ensures.grown) c.in_ok-name.ensures.grown.valid _ c.in_ok-name.ensures.there in
    let ps = parameters_later _ _ c.in_ok-result.ensures.grown c.in_ok-parameters.ensures.grown.valid _ c.in_ok-parameters.ensures.read.0 in
    ((x.0, ps.0, c.in_ok-result.ensures.read.0), rw (x.1, c.in_ok-name.ensures.text, ps.1, c.in-Some.ensures, c.in-Some-sign.ensures, c.in_ok-parameters.ensures.read.1, c.in_ok-result.ensures.read.1, c.in_ok-end.ensures) refl)

pub returns-in_err-parameters-clause-grown : goal.returns-in_err-parameters-clause-grown
returns-in_err-parameters-clause-grown c = grows_then _ _ _ c.add_name.ensures.grown c.parameters.ensures.grown

pub returns-in_err-result-clause-grown : goal.returns-in_err-result-clause-grown
returns-in_err-result-clause-grown c = grows_then _ _ _ c.add_name.ensures.grown (grows_then _ _ _ c.parameters.ensures.grown c.type_behind.ensures.grown)

pub returns-in_err-end-clause-grown : goal.returns-in_err-end-clause-grown
returns-in_err-end-clause-grown c = grows_then _ _ _ c.add_name.ensures.grown (grows_then _ _ _ c.parameters.ensures.grown c.type_behind.ensures.grown)

pub returns-clause-grown : goal.returns-clause-grown
returns-clause-grown c = grows_then _ _ _ c.add_name.ensures.grown (grows_then _ _ _ c.parameters.ensures.grown c.type_behind.ensures.grown)
