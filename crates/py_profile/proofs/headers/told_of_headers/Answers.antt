use Rattle.spec_names.specs.Headers.{member_forms}
use Rattle.py_tree.specs.Arena.{shown_stmt}
use Rattle.py_profile.proofs.Telling.{each_more}
use Rattle.py_profile.proofs.headers.told_of_headers.Goals as goal

pub loop-i-preserved : goal.loop-i-preserved
loop-i-preserved c = each_more member_forms (shown_stmt c.args.module.now) c.args.module.now.tops c.args.told c.loop-i.told c.loop-i.i c.loop-i.invariant _ _ c.top_stmt.ensures.statement (c.in_ok-told.ensures {u = tt})
