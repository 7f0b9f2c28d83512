use Rattle.spec_names.specs.Members.{unless_member}
use Rattle.py_tree.specs.Arena.{shown_stmt}
use Rattle.py_profile.proofs.Telling.{each_more}
use Rattle.py_profile.proofs.statements.told_of_statements.Goals as goal

pub loop-i-preserved : goal.loop-i-preserved
loop-i-preserved c = each_more unless_member (shown_stmt c.args.module.now) c.args.module.now.tops c.args.told c.loop-i.told c.loop-i.i c.loop-i.invariant _ _ c.top_stmt.ensures.statement c.told_of_member-told.ensures
