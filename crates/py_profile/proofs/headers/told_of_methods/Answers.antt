use Rattle.std.proofs.lemmas.Option.{slice_get-get_or}
use Rattle.spec_names.specs.Headers.{method_forms}
use Rattle.py_tree.specs.Arena.{shown_stmt}
use Rattle.py_profile.proofs.Below.{stmt_below}
use Rattle.py_profile.proofs.Telling.{each_more}
use Rattle.py_profile.proofs.headers.told_of_methods.Goals as goal

pub told_of_method-requires : goal.told_of_method-requires
told_of_method-requires c = stmt_below _ c.args.body.now c.loop-s.s-index _ c.requires c.loop-s-test.true

pub loop-s-preserved : goal.loop-s-preserved
loop-s-preserved c = each_more method_forms (shown_stmt c.args.module.now) c.args.body.now c.args.told c.loop-s.told c.loop-s.s-index c.loop-s.invariant _ _ (slice_get-get_or c.args.body.now c.loop-s.s-index _ c.loop-s-test.true) (c.in_ok-told.ensures {u = tt})
