use Rattle.std.proofs.Common.{take}
use Rattle.std.specs.List.{All}
use Rattle.refutation_check.specs.Truth.{negated}
use Rattle.refutation_check.specs.Told.{IsTold}
use Rattle.refutation_check.proofs.hints.see.Given as goal

abbrev pub invariant-loop-l : goal.invariant-loop-l
invariant-loop-l l = All (λ k. IsTold l.slots (negated k)) (take l.l-index l.clause)
