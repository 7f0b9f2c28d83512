use Rattle.std.proofs.Common.{refl, sym, ◌∙◌}
use Rattle.std.proofs.lemmas.Result.{err_from_is_err_and}
use Rattle.py_tree.specs.Arena.{shown}
use Rattle.py_statements.proofs.Growth.{grows_then}
use Rattle.py_statements.proofs.Later.{expr_later, type_later}
use Rattle.py_statements.proofs.Turns.{fails_on, annotate_no_type, annotate_no_value, annotate_left, annotate_read}
use Rattle.py_statements.proofs.assignments.annotate.Goals as goal

pub returns-in_err-annotation-clause-read : goal.returns-in_err-annotation-clause-read
returns-in_err-annotation-clause-read c =
    let p = err_from_is_err_and c.from_residual.result c.from_residual.ensures.1 in
    rw (p.1, p.2) (fails_on _ _ _ c.in_err-annotation.ensures.read (λ n. annotate_no_type _ _ _ n))

pub returns-in_err-value-clause-read : goal.returns-in_err-value-clause-read
returns-in_err-value-clause-read c =
    let p = err_from_is_err_and c.from_residual-in_err-value.result c.from_residual-in_err-value.ensures.1 in
    rw (p.1, p.2) (fails_on _ _ _ c.in_err-value.ensures.read (λ n. annotate_no_value _ _ _ _ _ c.in_ok-annotation.ensures.read.1 n))

pub returns-then-not-at_end-clause-read : goal.returns-then-not-at_end-clause-read
returns-then-not-at_end-clause-read c = annotate_left _ _ _ _ _ _ _ c.in_ok-annotation.ensures.read.1 c.in_ok-value.ensures.read.1 (sym c.at_end.ensures ∙ c.if-not-at_end.true)

pub add-requires : goal.add-requires
add-requires c =
    let a = expr_later _ _ (grows_then _ _ _ c.in_ok-annotation.ensures.grown c.in_ok-value.ensures.grown) c.requires.module _ c.requires.target in
    let d = type_later _ _ c.in_ok-value.ensures.grown c.in_ok-annotation.ensures.grown.valid _ c.in_ok-annotation.ensures.read.0 in
    record { parts = (a.0, d.0, c.in_ok-value.ensures.read.0); plain = tt }

pub returns-clause-read : goal.returns-clause-read
returns-clause-read c =
    let a = expr_later _ _ (grows_then _ _ _ c.in_ok-annotation.ensures.grown c.in_ok-value.ensures.grown) c.requires.module _ c.requires.target in
    let d = type_later _ _ c.in_ok-value.ensures.grown c.in_ok-annotation.ensures.grown.valid _ c.in_ok-annotation.ensures.read.0 in
    let read = annotate_read c.args.line (shown c.args.into.now c.args.target.index) _ _ _ _ _ c.in_ok-annotation.ensures.read.1 c.in_ok-value.ensures.read.1 (sym c.at_end.ensures ∙ c.if-not-at_end.false) in
    (c.in_ok-add.ensures.there, rw (c.in_ok-add.ensures.tree, read, a.1, d.1) refl)

pub returns-in_err-value-clause-grown : goal.returns-in_err-value-clause-grown
returns-in_err-value-clause-grown c = grows_then _ _ _ c.annotation.ensures.grown c.read_value.ensures.grown

pub returns-then-not-at_end-clause-grown : goal.returns-then-not-at_end-clause-grown
returns-then-not-at_end-clause-grown c = grows_then _ _ _ c.annotation.ensures.grown c.read_value.ensures.grown

pub returns-in_err-add-clause-grown : goal.returns-in_err-add-clause-grown
returns-in_err-add-clause-grown c = grows_then _ _ _ c.annotation.ensures.grown (grows_then _ _ _ c.read_value.ensures.grown c.add.ensures.grown)

pub returns-clause-grown : goal.returns-clause-grown
returns-clause-grown c = grows_then _ _ _ c.annotation.ensures.grown (grows_then _ _ _ c.read_value.ensures.grown c.add.ensures.grown)
