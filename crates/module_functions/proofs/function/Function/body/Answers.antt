use Rattle.std.proofs.Common.{arith}
use Rattle.py_tree.proofs.StmtNodes.{stmts_more}
use Rattle.module_functions.proofs.function.Function.body.Goals as goal

pub returns-in-Def-clause-there : goal.returns-in-Def-clause-there
returns-in-Def-clause-there c =
    let parts = rw c.in-Def.is at c.stmt.ensures.parts in
    rw c.deref.ensures.value (stmts_more _ _ (omega arith) c.in-Def.body.items parts.3)
