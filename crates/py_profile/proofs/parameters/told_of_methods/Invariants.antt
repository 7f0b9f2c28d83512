use Rattle.std.proofs.Common.{◌≡◌, length}
use Rattle.spec_names.specs.Parameters.{refusals_of_parameters}
use Rattle.py_tree.specs.Arena.{shown_stmt}
use Rattle.py_profile.proofs.Telling.{TellsTo}
use Rattle.py_profile.proofs.parameters.told_of_methods.Given as goal

abbrev pub invariant-loop-s : goal.invariant-loop-s
invariant-loop-s l = TellsTo refusals_of_parameters (shown_stmt l.module) l.body l.fn.told l.told l.s-index × (length l.earlier ≡ length l.module.names)
