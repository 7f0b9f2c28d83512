use Rattle.std.proofs.Common.{◌≢◌, take}
use Rattle.std.specs.List.{All}
use Rattle.refutation_check.specs.Truth.{negated}
use Rattle.refutation_check.specs.Told.{IsTold}
use Rattle.refutation_check.proofs.hints.is_last.Given as goal

abbrev pub invariant-loop-k : goal.invariant-loop-k
invariant-loop-k s = All (λ k. k ≢ s.l → IsTold s.slots (negated k)) (take s.k-index s.clause)
