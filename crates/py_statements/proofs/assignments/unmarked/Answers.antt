use Rattle.std.proofs.Common.{drop}
use Rattle.py_statements.proofs.Turns.{unmarked_target, unmarked_other}
use Rattle.py_statements.proofs.Growth.{grows_then}
use Rattle.py_statements.proofs.assignments.unmarked.Goals as goal

pub returns-in-Ok-clause-read : goal.returns-in-Ok-clause-read
returns-in-Ok-clause-read c = rw (unmarked_target _ (drop c.args.pos c.args.words.now) _ c.in-Ok.ensures.read.1) c.targeted.ensures.read

pub returns-in-Err-NoForm-clause-read : goal.returns-in-Err-NoForm-clause-read
returns-in-Err-NoForm-clause-read c = rw (unmarked_other (drop c.args.pos c.args.words.now) (rw c.in-Err-NoForm.field-0-is at c.in-Err-NoForm.ensures.read)) c.evaluate.ensures.read

pub returns-in-Ok-clause-grown : goal.returns-in-Ok-clause-grown
returns-in-Ok-clause-grown c = grows_then _ _ _ c.read_target.ensures.grown c.targeted.ensures.grown

pub returns-in-Err-NoForm-clause-grown : goal.returns-in-Err-NoForm-clause-grown
returns-in-Err-NoForm-clause-grown c = grows_then _ _ _ c.read_target.ensures.grown c.evaluate.ensures.grown
