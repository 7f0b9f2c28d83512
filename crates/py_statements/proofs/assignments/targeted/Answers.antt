use Rattle.std.proofs.Common.{drop}
use Rattle.py_tree.specs.Arena.{shown}
use Rattle.py_statements.proofs.Turns.{targeted_assign, targeted_annotate, targeted_augment, targeted_other}
use Rattle.py_statements.proofs.assignments.targeted.Goals as goal

pub returns-in-Some-clause-read : goal.returns-in-Some-clause-read
returns-in-Some-clause-read c = rw (targeted_assign c.line-line.result (shown c.args.into.now c.args.target.index) (drop c.args.pos c.args.words.now) (drop c.args.next c.args.words.now) _ c.line-line.ensures c.in-Some.ensures) c.assign.ensures.read

pub returns-in-Some-sign-clause-read : goal.returns-in-Some-sign-clause-read
returns-in-Some-sign-clause-read c = rw (targeted_annotate c.line-line.result (shown c.args.into.now c.args.target.index) (drop c.args.pos c.args.words.now) (drop c.args.next c.args.words.now) _ c.line-line.ensures c.in_default.ensures c.in-Some-sign.ensures) c.annotate.ensures.read

pub returns-in-Some-augmented-clause-read : goal.returns-in-Some-augmented-clause-read
returns-in-Some-augmented-clause-read c = rw (targeted_augment c.line-line.result (shown c.args.into.now c.args.target.index) c.in-Some-augmented.operator (drop c.args.pos c.args.words.now) (drop c.args.next c.args.words.now) _ c.line-line.ensures c.in_default.ensures c.in_default-sign.ensures c.in-Some-augmented.ensures) c.augment.ensures.read

pub returns-clause-read : goal.returns-clause-read
returns-clause-read c = rw (targeted_other (shown c.args.into.now c.args.target.index) (drop c.args.pos c.args.words.now) (drop c.args.next c.args.words.now) c.in_default.ensures c.in_default-sign.ensures c.in_default-augmented.ensures) c.evaluate.ensures.read
