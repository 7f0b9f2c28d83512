use Rattle.std.proofs.Common.{◌≡◌, true, take}
use Rattle.std.specs.List.{All}
use Rattle.refutation_check.specs.Truth.{clause_value}
use Rattle.sat_core.specs.Models.{model_value}
use Rattle.sat_core.proofs.offered.meets.Given as goal

abbrev pub invariant-loop-i : goal.invariant-loop-i
invariant-loop-i l = All (λ c. clause_value (model_value l.model) c ≡ true) (take l.i l.clauses)
