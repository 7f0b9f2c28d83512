use Rattle.spec_grammar.specs.StatementReading.{read_arguments}
use Rattle.py_expressions.proofs.reading.read_call_arguments.Goals as goal

pub returns-clause-read : goal.returns-clause-read
unfolding read_arguments
returns-clause-read c = rw c.room_behind.ensures at c.arguments.ensures.read
