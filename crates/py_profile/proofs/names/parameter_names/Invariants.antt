use Rattle.std.proofs.Common.{◌≡◌, length, take}
use Rattle.py_tree.specs.Names.{AreNamesBelow}
use Rattle.py_profile.proofs.Below.{ids_of}
use Rattle.py_profile.proofs.names.parameter_names.Given as goal

abbrev pub invariant-loop-parameter : goal.invariant-loop-parameter
invariant-loop-parameter l = AreNamesBelow (length l.module.names) l.names.items × (l.names.items ≡ ids_of (take l.parameter-index l.parameters))
