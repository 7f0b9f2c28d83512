use Rattle.spec_names.specs.Parameters.{with_methods}
use Rattle.py_tree.specs.Arena.{shown_stmt}
use Rattle.py_profile.proofs.Telling.{each_more}
use Rattle.py_profile.proofs.parameters.told_of_parameters.Goals as goal

pub loop-i-preserved : goal.loop-i-preserved
loop-i-preserved c =
    let more = c.in_ok-told.ensures {u = tt} in (
      each_more with_methods (shown_stmt c.args.module.now) c.args.module.now.tops c.args.told c.loop-i.told c.loop-i.i c.loop-i.invariant.0 _ _ c.top_stmt.ensures.statement more.told,
      more.size,
    )
