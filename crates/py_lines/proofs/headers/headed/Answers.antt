use Rattle.std.proofs.Common.{refl}
use Rattle.std.proofs.lemmas.Result.{err_from_is_err_and}
use Rattle.spec_trees.specs.Stmt.{if, elif, while}
use Rattle.spec_grammar.specs.HeaderReading.{headed_of}
use Rattle.py_statements.proofs.Growth.{grows_same}
use Rattle.py_lines.proofs.Turns.{condition_read, condition_stuck, headed_none, fails_on}
use Rattle.py_lines.proofs.headers.headed.Goals as goal

pub returns-in_err-condition-in-If-clause-read : goal.returns-in_err-condition-in-If-clause-read
unfolding headed_of
returns-in_err-condition-in-If-clause-read c =
    let p = err_from_is_err_and c.from_residual.result c.from_residual.ensures.1 in
    rw (p.1, p.2) (fails_on _ _ _ c.in_err-condition-in-If.ensures.read (λ n. rw c.in-If.is (condition_stuck (if c.args.line) _ n)))

pub returns-in_ok-condition-in-If-clause-read : goal.returns-in_ok-condition-in-If-clause-read
unfolding headed_of
returns-in_ok-condition-in-If-clause-read c = (c.in_ok-condition-in-If.ensures.read.0, rw c.in-If.is (condition_read (if c.args.line) _ _ _ c.in_ok-condition-in-If.ensures.read.1))

pub returns-in_err-condition-in-Elif-clause-read : goal.returns-in_err-condition-in-Elif-clause-read
unfolding headed_of
returns-in_err-condition-in-Elif-clause-read c =
    let p = err_from_is_err_and c.from_residual-in_err-condition-in-Elif.result c.from_residual-in_err-condition-in-Elif.ensures.1 in
    rw (p.1, p.2) (fails_on _ _ _ c.in_err-condition-in-Elif.ensures.read (λ n. rw c.in-Elif.is (condition_stuck (elif c.args.line) _ n)))

pub returns-in_ok-condition-in-Elif-clause-read : goal.returns-in_ok-condition-in-Elif-clause-read
unfolding headed_of
returns-in_ok-condition-in-Elif-clause-read c = (c.in_ok-condition-in-Elif.ensures.read.0, rw c.in-Elif.is (condition_read (elif c.args.line) _ _ _ c.in_ok-condition-in-Elif.ensures.read.1))

pub returns-in_err-condition-in-While-clause-read : goal.returns-in_err-condition-in-While-clause-read
unfolding headed_of
returns-in_err-condition-in-While-clause-read c =
    let p = err_from_is_err_and c.from_residual-in_err-condition-in-While.result c.from_residual-in_err-condition-in-While.ensures.1 in
    rw (p.1, p.2) (fails_on _ _ _ c.in_err-condition-in-While.ensures.read (λ n. rw c.in-While.is (condition_stuck (while c.args.line) _ n)))

pub returns-in_ok-condition-in-While-clause-read : goal.returns-in_ok-condition-in-While-clause-read
unfolding headed_of
returns-in_ok-condition-in-While-clause-read c = (c.in_ok-condition-in-While.ensures.read.0, rw c.in-While.is (condition_read (while c.args.line) _ _ _ c.in_ok-condition-in-While.ensures.read.1))

pub returns-in_err-colon-in-Else-clause-read : goal.returns-in_err-colon-in-Else-clause-read
unfolding headed_of
returns-in_err-colon-in-Else-clause-read c =
    let p = err_from_is_err_and c.from_residual-in_err-colon-in-Else.result c.from_residual-in_err-colon-in-Else.ensures.1 in
    rw (p.1, p.2) (fails_on _ _ _ c.in_err-colon-in-Else.ensures (λ n. rw (c.in-Else.is, n) refl))

pub returns-in_ok-colon-in-Else-clause-read : goal.returns-in_ok-colon-in-Else-clause-read
unfolding headed_of
returns-in_ok-colon-in-Else-clause-read c = (tt, rw (c.in-Else.is, c.in_ok-colon-in-Else.ensures) refl)

pub returns-in_err-colon-in-Try-clause-read : goal.returns-in_err-colon-in-Try-clause-read
unfolding headed_of
returns-in_err-colon-in-Try-clause-read c =
    let p = err_from_is_err_and c.from_residual-in_err-colon-in-Try.result c.from_residual-in_err-colon-in-Try.ensures.1 in
    rw (p.1, p.2) (fails_on _ _ _ c.in_err-colon-in-Try.ensures (λ n. rw (c.in-Try.is, n) refl))

pub returns-in_ok-colon-in-Try-clause-read : goal.returns-in_ok-colon-in-Try-clause-read
unfolding headed_of
returns-in_ok-colon-in-Try-clause-read c = (tt, rw (c.in-Try.is, c.in_ok-colon-in-Try.ensures) refl)

pub returns-in-Def-clause-read : goal.returns-in-Def-clause-read
unfolding headed_of
returns-in-Def-clause-read c = rw c.in-Def.is c.def.ensures.read

pub returns-in-Class-clause-read : goal.returns-in-Class-clause-read
unfolding headed_of
returns-in-Class-clause-read c = rw c.in-Class.is c.class.ensures.read

pub returns-in-For-clause-read : goal.returns-in-For-clause-read
unfolding headed_of
returns-in-For-clause-read c = rw c.in-For.is c.for_loop.ensures.read

pub returns-in-Except-clause-read : goal.returns-in-Except-clause-read
unfolding headed_of
returns-in-Except-clause-read c = rw c.in-Except.is c.except.ensures.read

pub returns-in_default : goal.returns-in_default
returns-in_default c = record { grown = grows_same _ c.requires.module; read = headed_none _ _ _ c.in_default.not-Def c.in_default.not-Class c.in_default.not-If c.in_default.not-Elif c.in_default.not-Else c.in_default.not-While c.in_default.not-For c.in_default.not-Try c.in_default.not-Except }
