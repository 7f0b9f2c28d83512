use Rattle.std.proofs.Common.{arith}
use Rattle.py_tree.proofs.StmtNodes.{stmts_more}
use Rattle.module_members.proofs.members.methods.Goals as goal

pub returns-in-Class-clause-there : goal.returns-in-Class-clause-there
returns-in-Class-clause-there c =
    let parts = rw c.in-Class.is at c.stmt.ensures.parts in
    rw c.deref.ensures.value (stmts_more _ _ (omega arith) c.in-Class.body.items parts.1)
