use Rattle.std.proofs.Common.{arith}
use Rattle.py_tree.proofs.StmtNodes.{stmts_more}
use Rattle.module_functions.proofs.Found.{functions_class, functions_more, functions_pass}
use Rattle.module_functions.proofs.listing.functions.Goals as goal
use Rattle.module_functions.proofs.listing.functions.Goals.{in-Class+in_ok-add_methods-in-Class, in-Def+in_ok-push-in-Def, in_default}

pub add_methods-requires-clause-statements : goal.add_methods-requires-clause-statements
add_methods-requires-clause-statements c =
    let parts = rw c.in-Class.is at c.stmt.ensures.parts in
    rw c.deref.ensures.value (stmts_more _ _ (omega arith) c.in-Class.body.items parts.1)

pub loop-i-preserved : goal.loop-i-preserved
loop-i-preserved c = elim c.match-stmt.branch [
  | in-Def+in_ok-push-in-Def w ↦ rw (w.functions-is, w.classes-is) (functions_more c.args.module.now c.loop-i.functions.items c.loop-i.classes c.loop-i.i c.loop-i.invariant _ w.in-Def.line w.in-Def.last w.in-Def.name w.in-Def.parameters w.in-Def.result w.in-Def.body _ c.top_stmt-statement.ensures.statement c.top_stmt-statement.ensures.below (rw w.in-Def.is at c.stmt.ensures.tree) w.in_ok-push-in-Def.ensures.items)
  | in-Class+in_ok-add_methods-in-Class w ↦
      let found = rw w.deref.ensures.value at w.in_ok-add_methods-in-Class.ensures in
      rw (w.functions-is, w.classes-is) (functions_class c.args.module.now c.loop-i.functions.items c.loop-i.classes c.loop-i.i c.loop-i.invariant c.top_stmt-statement.result w.in-Class.line w.in-Class.last w.in-Class.name w.in-Class.body _ c.top_stmt-statement.ensures.statement (rw w.in-Class.is at c.stmt.ensures.tree) found.functions found.there)
  | in_default w ↦ rw (w.functions-is, w.classes-is) (functions_pass c.args.module.now c.loop-i.functions.items c.loop-i.classes c.loop-i.i c.loop-i.invariant _ c.stmt.result.now c.top_stmt-statement.ensures.statement c.stmt.ensures.tree w.in_default.not-Def w.in_default.not-Class)
]
