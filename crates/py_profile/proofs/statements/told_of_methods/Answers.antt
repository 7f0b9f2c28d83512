use Rattle.std.proofs.lemmas.Option.{slice_get-get_or}
use Rattle.spec_names.specs.Members.{unless_method}
use Rattle.py_tree.specs.Arena.{shown_stmt}
use Rattle.py_profile.proofs.Below.{stmt_below}
use Rattle.py_profile.proofs.Telling.{each_more}
use Rattle.py_profile.proofs.statements.told_of_methods.Goals as goal

pub told_of_method-told-requires : goal.told_of_method-told-requires
told_of_method-told-requires c = stmt_below _ c.args.body.now c.loop-s.s-index _ c.requires c.loop-s-test.true

pub loop-s-preserved : goal.loop-s-preserved
loop-s-preserved c = each_more unless_method (shown_stmt c.args.module.now) c.args.body.now c.args.told c.loop-s.told c.loop-s.s-index c.loop-s.invariant _ _ (slice_get-get_or c.args.body.now c.loop-s.s-index _ c.loop-s-test.true) c.told_of_method-told.ensures
