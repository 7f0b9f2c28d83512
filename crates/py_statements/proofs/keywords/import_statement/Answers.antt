use Rattle.std.proofs.Common.{sym, ◌∙◌}
use Rattle.std.proofs.lemmas.Result.{err_from_is_err_and}
use Rattle.py_statements.proofs.Turns.{fails_on, shows, import_none, import_left, import_read}
use Rattle.py_statements.proofs.Growth.{grows_then}
use Rattle.py_statements.proofs.keywords.import_statement.Goals as goal

pub returns-in_err-path-clause-read : goal.returns-in_err-path-clause-read
returns-in_err-path-clause-read c =
    let p = err_from_is_err_and c.from_residual.result c.from_residual.ensures.1 in
    rw (p.1, p.2) (fails_on _ _ _ c.in_err-path.ensures.read (λ n. import_none _ _ n))

pub returns-then-not-at_end-clause-read : goal.returns-then-not-at_end-clause-read
returns-then-not-at_end-clause-read c = import_left _ _ _ _ c.in_ok-path.ensures.read.1 (sym c.at_end.ensures ∙ c.if-not-at_end.true)

pub returns-clause-read : goal.returns-clause-read
returns-clause-read c = (c.in_ok-add.ensures.there, shows _ _ _ (import_read _ _ _ _ c.in_ok-path.ensures.read.1 (sym c.at_end.ensures ∙ c.if-not-at_end.false)) c.in_ok-add.ensures.tree)

pub returns-in_err-add-clause-grown : goal.returns-in_err-add-clause-grown
returns-in_err-add-clause-grown c = grows_then _ _ _ c.read_names.ensures.grown c.add.ensures.grown

pub returns-clause-grown : goal.returns-clause-grown
returns-clause-grown c = grows_then _ _ _ c.read_names.ensures.grown c.add.ensures.grown
