use Rattle.std.proofs.Common.{drop}
use Rattle.py_statements.proofs.Turns.{imported_bracketed, imported_bare}
use Rattle.py_statements.proofs.names.read_imported.Goals as goal

pub returns-in-Some-clause-read : goal.returns-in-Some-clause-read
returns-in-Some-clause-read c = rw (imported_bracketed (drop c.args.pos c.args.words.now) (drop c.in-Some.start c.args.words.now) c.in-Some.ensures) c.read_bracketed.ensures.read

pub returns-clause-read : goal.returns-clause-read
returns-clause-read c = rw (imported_bare (drop c.args.pos c.args.words.now) c.in_default.ensures) c.read_names.ensures.read
