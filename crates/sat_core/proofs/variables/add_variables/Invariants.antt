use Rattle.std.proofs.Common.{◌≡◌, drop}
use Rattle.sat_core.specs.Variables.{with_variables}
use Rattle.sat_core.proofs.variables.add_variables.Given as goal

abbrev pub invariant-loop-l : goal.invariant-loop-l
invariant-loop-l l = with_variables l.initial.vars.items l.lits ≡ with_variables l.vars.items (drop l.l-index l.lits)
