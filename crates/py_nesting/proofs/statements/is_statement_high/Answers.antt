use Rattle.std.proofs.Common.{[]}
use Rattle.py_nesting.proofs.statements.is_statement_high.Goals as goal

pub returns-in-Raise : goal.returns-in-Raise
returns-in-Raise c = rw (c.stmt.ensures.tree, c.in-Raise.is) (c.are_raised_high.ensures c.in-Raise.line [])
