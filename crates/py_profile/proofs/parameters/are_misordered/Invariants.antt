use Rattle.std.proofs.Common.{◌≡◌, drop}
use Rattle.spec_names.specs.Parameters.{are_misordered}
use Rattle.py_tree.specs.Stmts.{parameters_tree}
use Rattle.py_profile.proofs.Defaults.{misordered_behind}
use Rattle.py_profile.proofs.parameters.are_misordered.Given as goal

abbrev pub invariant-loop-parameter : goal.invariant-loop-parameter
invariant-loop-parameter l = are_misordered (parameters_tree l.module l.parameters) ≡ misordered_behind l.has_default (parameters_tree l.module (drop l.parameter-index l.parameters))
