use Rattle.std.proofs.Common.{◌≡◌, length}
use Rattle.spec_names.specs.Parameters.{with_methods}
use Rattle.py_tree.specs.Arena.{shown_stmt}
use Rattle.py_profile.proofs.Telling.{TellsTo}
use Rattle.py_profile.proofs.parameters.told_of_parameters.Given as goal

abbrev pub invariant-loop-i : goal.invariant-loop-i
invariant-loop-i l = TellsTo with_methods (shown_stmt l.module) l.module.tops l.fn.told l.told l.i × (length l.earlier ≡ length l.module.names)
