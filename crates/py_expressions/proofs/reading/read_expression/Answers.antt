use Rattle.spec_grammar.specs.Reading.{read_expr}
use Rattle.py_expressions.proofs.reading.read_expression.Goals as goal

pub returns-clause-read : goal.returns-clause-read
unfolding read_expr
returns-clause-read c = rw c.room_behind.ensures at c.expr.ensures.read
