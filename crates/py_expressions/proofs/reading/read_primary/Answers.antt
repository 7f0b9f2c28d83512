use Rattle.spec_grammar.specs.StatementReading.{read_prim}
use Rattle.py_expressions.proofs.reading.read_primary.Goals as goal

pub returns-clause-read : goal.returns-clause-read
unfolding read_prim
returns-clause-read c = rw c.room_behind.ensures at c.prim.ensures.read
