use Rattle.std.proofs.Common.{ℕ, ◌⊎◌, Contains}
use Rattle.sat_core.specs.Variables.{HasVariable}
use Rattle.sat_core.proofs.offered.add_true.Given as goal

abbrev pub invariant-loop-l : goal.invariant-loop-l
invariant-loop-l s = (x : ℕ) → Contains s.vars.items x → Contains s.initial.vars.items x ⊎ HasVariable s.lits x
