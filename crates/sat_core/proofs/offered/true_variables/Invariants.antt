use Rattle.std.proofs.Common.{ℕ, Contains}
use Rattle.sat_core.specs.Variables.{IsNamed}
use Rattle.sat_core.proofs.offered.true_variables.Given as goal

abbrev pub invariant-loop-i : goal.invariant-loop-i
invariant-loop-i l = (x : ℕ) → Contains l.vars.items x → IsNamed l.clauses l.assumptions x
