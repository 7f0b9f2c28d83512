use Rattle.std.proofs.Common.{arith}
use Rattle.py_tree.proofs.StmtNodes.{stmts_more}
use Rattle.py_program.proofs.Listed.{listed_class, listed_function, listed_pass}
use Rattle.py_program.proofs.listing.listing_of.Goals as goal
use Rattle.py_program.proofs.listing.listing_of.Goals.{in-Def+in_ok-push-in-Def, in-Class+in_ok-push-in-Class+in_ok-add_methods-in-Class, in_default}

pub add_methods-requires-clause-body : goal.add_methods-requires-clause-body
add_methods-requires-clause-body c =
    let parts = rw c.in-Class.is at c.stmt.ensures.parts in
    rw c.deref.ensures.value (stmts_more _ _ (omega arith) c.in-Class.body.items parts.1)

pub loop-i-preserved : goal.loop-i-preserved
loop-i-preserved c =
    let m = c.args.module.now in
    let at = c.top_stmt.ensures.statement in
    elim c.match-stmt.branch [
      | in-Def+in_ok-push-in-Def w ↦
          let parts = rw w.in-Def.is at c.stmt.ensures.parts in
          rw (w.functions-is, w.classes-is) (listed_function m c.loop-i.functions.items c.loop-i.classes.items c.loop-i.i c.loop-i.invariant _ at w.in-Def.line w.in-Def.last w.in-Def.name w.in-Def.parameters w.in-Def.result w.in-Def.body _ (rw w.in-Def.is at c.stmt.ensures.tree) parts.0 w.in_ok-push-in-Def.ensures.items)
      | in-Class+in_ok-push-in-Class+in_ok-add_methods-in-Class w ↦
          let parts = rw w.in-Class.is at c.stmt.ensures.parts in
          let found = rw w.deref.ensures.value at w.in_ok-add_methods-in-Class.ensures in
          rw (w.functions-is, w.classes-is) (listed_class m c.loop-i.functions.items c.loop-i.classes.items c.loop-i.i c.loop-i.invariant _ at w.in-Class.line w.in-Class.last w.in-Class.name w.in-Class.body _ _ (rw w.in-Class.is at c.stmt.ensures.tree) parts.0 found.functions found.there w.in_ok-push-in-Class.ensures.items)
      | in_default w ↦ rw (w.functions-is, w.classes-is) (listed_pass m c.loop-i.functions.items c.loop-i.classes.items c.loop-i.i c.loop-i.invariant _ at c.stmt.result.now c.stmt.ensures.tree w.in_default.not-Def w.in_default.not-Class)
    ]
