use Rattle.std.proofs.Common.{refl, sym, ◌∙◌}
use Rattle.std.proofs.lemmas.Result.{err_from_is_err_and}
use Rattle.py_statements.proofs.Later.{text_later}
use Rattle.py_statements.proofs.Turns.{fails_on, from_no_name, from_no_import, from_none, from_left, from_read}
use Rattle.py_statements.proofs.Growth.{grows_then}
use Rattle.py_statements.proofs.keywords.from_statement.Goals as goal

pub returns-in_default-clause-read : goal.returns-in_default-clause-read
returns-in_default-clause-read c = from_no_name _ _ c.in_default.ensures

pub returns-in_default-sign-clause-read : goal.returns-in_default-sign-clause-read
returns-in_default-sign-clause-read c = from_no_import _ _ _ _ c.in-Some.ensures c.in_default-sign.ensures

pub returns-in_err-names-clause-read : goal.returns-in_err-names-clause-read
returns-in_err-names-clause-read c =
    let p = err_from_is_err_and c.from_residual-in_err-names.result c.from_residual-in_err-names.ensures.1 in
    rw (p.1, p.2) (fails_on _ _ _ c.in_err-names.ensures.read (λ n. from_none _ _ _ _ _ c.in-Some.ensures c.in-Some-sign.ensures n))

pub returns-then-not-at_end-clause-read : goal.returns-then-not-at_end-clause-read
returns-then-not-at_end-clause-read c = from_left _ _ _ _ _ _ _ c.in-Some.ensures c.in-Some-sign.ensures c.in_ok-names.ensures.read.1 (sym c.at_end.ensures ∙ c.if-not-at_end.true)

pub add-requires : goal.add-requires
add-requires c =
    let l = text_later _ _ c.in_ok-names.ensures.grown c.in_ok-module.ensures.grown.valid _ c.in_ok-module.ensures.there in
    record { parts = (l.0, c.in_ok-names.ensures.read.0); plain = tt }

pub returns-clause-read : goal.returns-clause-read
returns-clause-read c =
    let l = text_later _ _ c.in_ok-names.ensures.grown c.in_ok-module.ensures.grown.valid _ c.in_ok-module.ensures.there in
    let read = from_read c.args.line _ _ _ _ _ _ c.in-Some.ensures c.in-Some-sign.ensures c.in_ok-names.ensures.read.1 (sym c.at_end.ensures ∙ c.if-not-at_end.false) in
    (c.in_ok-add.ensures.there, rw (c.in_ok-add.ensures.tree, read, l.1, c.in_ok-module.ensures.text) refl)

pub returns-in_err-names-clause-grown : goal.returns-in_err-names-clause-grown
returns-in_err-names-clause-grown c = grows_then _ _ _ c.add_name.ensures.grown c.read_imported.ensures.grown

pub returns-then-not-at_end-clause-grown : goal.returns-then-not-at_end-clause-grown
returns-then-not-at_end-clause-grown c = grows_then _ _ _ c.add_name.ensures.grown c.read_imported.ensures.grown

pub returns-in_err-add-clause-grown : goal.returns-in_err-add-clause-grown
returns-in_err-add-clause-grown c = grows_then _ _ _ c.add_name.ensures.grown (grows_then _ _ _ c.read_imported.ensures.grown c.add.ensures.grown)

pub returns-clause-grown : goal.returns-clause-grown
returns-clause-grown c = grows_then _ _ _ c.add_name.ensures.grown (grows_then _ _ _ c.read_imported.ensures.grown c.add.ensures.grown)
