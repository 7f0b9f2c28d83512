use Rattle.std.proofs.lemmas.Option.{slice_get-get_or}
use Rattle.spec_names.specs.Parameters.{refusals_of_parameters}
use Rattle.py_tree.specs.Arena.{shown_stmt}
use Rattle.py_profile.proofs.Below.{stmt_below}
use Rattle.py_profile.proofs.Telling.{each_more}
use Rattle.py_profile.proofs.parameters.told_of_methods.Goals as goal

pub told_of_function-requires-clause-statement : goal.told_of_function-requires-clause-statement
told_of_function-requires-clause-statement c = stmt_below _ c.args.body.now c.loop-s.s-index _ c.requires.body c.loop-s-test.true

pub loop-s-preserved : goal.loop-s-preserved
loop-s-preserved c =
    let more = c.in_ok-told.ensures {u = tt} in (
      each_more refusals_of_parameters (shown_stmt c.args.module.now) c.args.body.now c.args.told c.loop-s.told c.loop-s.s-index c.loop-s.invariant.0 _ _ (slice_get-get_or c.args.body.now c.loop-s.s-index _ c.loop-s-test.true) more.told,
      more.size,
    )
