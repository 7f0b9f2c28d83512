use Rattle.std.proofs.Common.{arith}
use Rattle.py_tree.proofs.StmtNodes.{stmts_more}
use Rattle.module_classes.proofs.class.Class.constructor.Goals as goal

pub constructor_of-requires : goal.constructor_of-requires
constructor_of-requires c =
    let parts = rw c.in-Class.is at c.stmt.ensures.parts in
    rw c.deref.ensures.value (stmts_more _ _ (omega arith) c.in-Class.body.items parts.1)
