use Rattle.std.proofs.Common.{arith, refl}
use Rattle.py_tree.proofs.StmtNodes.{stmts_more}
use Rattle.contract_owners.proofs.Owning.{there_push, owners_function, owners_class, owners_pass}
use Rattle.contract_owners.proofs.listing.owners.Goals as goal
use Rattle.contract_owners.proofs.listing.owners.Goals.{in-Def+in_ok-push-in-Def, in-Class+in_ok-push-in-Class+in_ok-functions-in-Class, in_default}

pub methods-requires-clause-statements : goal.methods-requires-clause-statements
methods-requires-clause-statements c =
    let parts = rw c.in-Class.is at c.stmt.ensures.parts in
    rw c.deref.ensures.value (stmts_more _ _ (omega arith) c.in-Class.body.items parts.1)

pub methods-requires-clause-there : goal.methods-requires-clause-there
methods-requires-clause-there c = rw c.in_ok-push-in-Class.ensures.items (there_push c.args.module.now c.loop-i.owners.items _ c.loop-i.invariant.there c.top_stmt-statement.ensures.below)

pub loop-i-preserved : goal.loop-i-preserved
loop-i-preserved c = elim c.match-stmt.branch [
  | in-Def+in_ok-push-in-Def w ↦ rw (w.owners-is, w.functions-is, w.classes-is) (owners_function c.args.module.now c.loop-i.owners.items c.loop-i.functions c.loop-i.classes c.loop-i.i c.loop-i.invariant _ w.in-Def.line w.in-Def.last w.in-Def.name w.in-Def.parameters w.in-Def.result w.in-Def.body _ _ c.top_stmt-statement.ensures.statement c.top_stmt-statement.ensures.below (rw w.in-Def.is at c.stmt.ensures.tree) w.function_owner.ensures w.in_ok-push-in-Def.ensures.items)
  | in-Class+in_ok-push-in-Class+in_ok-functions-in-Class w ↦
      let found = rw w.deref.ensures.value at w.in_ok-functions-in-Class.ensures in
      rw (w.owners-is, w.functions-is, w.classes-is) (owners_class c.args.module.now c.loop-i.owners.items c.loop-i.functions c.loop-i.classes c.loop-i.i c.loop-i.invariant c.top_stmt-statement.result w.in-Class.line w.in-Class.last w.in-Class.name w.in-Class.body _ _ _ _ c.top_stmt-statement.ensures.statement (rw w.in-Class.is at c.stmt.ensures.tree) refl w.in_ok-push-in-Class.ensures.items found.owned found.count found.there)
  | in_default w ↦ rw (w.owners-is, w.functions-is, w.classes-is) (owners_pass c.args.module.now c.loop-i.owners.items c.loop-i.functions c.loop-i.classes c.loop-i.i c.loop-i.invariant _ c.stmt.result.now c.top_stmt-statement.ensures.statement c.stmt.ensures.tree w.in_default.not-Def w.in_default.not-Class)
]
