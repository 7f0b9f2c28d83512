use Rattle.std.proofs.Common.{◌∙◌}
use Rattle.std.proofs.lemmas.Result.{err_from_is_err_and}
use Rattle.py_statements.proofs.Turns.{fails_on, names_none, names_more}
use Rattle.py_statements.proofs.Growth.{grows_then}
use Rattle.py_statements.proofs.names.read_names.Goals as goal

pub returns-in_default-clause-read : goal.returns-in_default-clause-read
returns-in_default-clause-read c = names_none _ _ c.in_default.ensures

pub returns-in_err-names-clause-read : goal.returns-in_err-names-clause-read
returns-in_err-names-clause-read c =
    let p = err_from_is_err_and c.from_residual-in_err-names.result c.from_residual-in_err-names.ensures.1 in
    rw (p.1, p.2) (fails_on _ _ _ c.in_err-names.ensures.read (λ n. names_more _ _ _ _ _ c.words_from-room.ensures c.in-Some.ensures ∙ (rw c.in_ok-first.ensures.text at n)))

pub returns-clause-read : goal.returns-clause-read
returns-clause-read c =
    (c.in_ok-add_names.ensures.there, rw (c.in_ok-add_names.ensures.texts, c.deref.ensures.value) (names_more _ _ _ _ _ c.words_from-room.ensures c.in-Some.ensures ∙ (rw c.in_ok-first.ensures.text at c.in_ok-names.ensures.read.1)))

pub returns-in_err-names-clause-grown : goal.returns-in_err-names-clause-grown
returns-in_err-names-clause-grown c = grows_then _ _ _ c.add_name.ensures.grown c.more_names.ensures.grown

pub returns-in_err-add_names-clause-grown : goal.returns-in_err-add_names-clause-grown
returns-in_err-add_names-clause-grown c = grows_then _ _ _ c.add_name.ensures.grown (grows_then _ _ _ c.more_names.ensures.grown c.add_names.ensures.grown)

pub returns-clause-grown : goal.returns-clause-grown
returns-clause-grown c = grows_then _ _ _ c.add_name.ensures.grown (grows_then _ _ _ c.more_names.ensures.grown c.add_names.ensures.grown)
