use Rattle.py_profile.proofs.Defaults.{default_below, defaults_more}
use Rattle.py_profile.proofs.parameters.told_of_defaults.Goals as goal

pub told_of_default-told-requires : goal.told_of_default-told-requires
told_of_default-told-requires c = default_below c.args.module.now c.args.parameters.now c.loop-parameter.parameter-index _ c.requires c.loop-parameter-test.true

pub loop-parameter-preserved : goal.loop-parameter-preserved
loop-parameter-preserved c = defaults_more c.args.module.now c.args.parameters.now c.args.told c.loop-parameter.told c.loop-parameter.parameter-index c.loop-parameter.invariant _ _ c.loop-parameter-test.true c.told_of_default-told.ensures
