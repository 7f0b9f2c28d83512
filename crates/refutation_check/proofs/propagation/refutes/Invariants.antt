use Rattle.std.proofs.Common.{◌≡◌, ◌++◌, map, take}
use Rattle.refutation_check.specs.Truth.{negated}
use Rattle.refutation_check.proofs.propagation.refutes.Given as goal

abbrev pub invariant-loop-l : goal.invariant-loop-l
invariant-loop-l l = l.trail.items ≡ l.assumptions ++ map negated (take l.l-index l.clause)
