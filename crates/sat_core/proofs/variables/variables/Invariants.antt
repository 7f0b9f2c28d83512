use Rattle.std.proofs.Common.{◌≡◌, drop}
use Rattle.sat_core.specs.Variables.{with_clauses}
use Rattle.sat_core.proofs.variables.variables.Given as goal

abbrev pub invariant-loop-i : goal.invariant-loop-i
invariant-loop-i l = with_clauses l.initial.vars.items l.clauses ≡ with_clauses l.vars.items (drop l.i l.clauses)
