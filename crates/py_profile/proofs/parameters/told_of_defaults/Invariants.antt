use Rattle.py_profile.proofs.parameters.told_of_defaults.Given as goal
use Rattle.py_profile.proofs.Defaults.{DefaultsTo}

abbrev pub invariant-loop-parameter : goal.invariant-loop-parameter
invariant-loop-parameter l = DefaultsTo l.module l.parameters l.fn.told l.told l.parameter-index
