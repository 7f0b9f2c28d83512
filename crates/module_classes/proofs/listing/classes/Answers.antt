use Rattle.module_classes.proofs.Found.{classes_more, classes_pass}
use Rattle.module_classes.proofs.listing.classes.Goals as goal
use Rattle.module_classes.proofs.listing.classes.Goals.{in-Class+in_ok-push, in_default}

pub loop-i-preserved : goal.loop-i-preserved
loop-i-preserved c = elim c.match-stmt.branch [
  | in-Class+in_ok-push w ↦ rw (w.classes-is) (classes_more c.args.module.now c.loop-i.classes.items c.loop-i.i c.loop-i.invariant _ w.in-Class.line w.in-Class.last w.in-Class.name w.in-Class.body _ c.top_stmt-statement.ensures.statement c.top_stmt-statement.ensures.below (rw w.in-Class.is at c.stmt.ensures.tree) w.in_ok-push.ensures.items)
  | in_default w ↦ rw (w.classes-is) (classes_pass c.args.module.now c.loop-i.classes.items c.loop-i.i c.loop-i.invariant _ c.stmt.result.now c.top_stmt-statement.ensures.statement c.stmt.ensures.tree w.in_default.not-Class)
]
