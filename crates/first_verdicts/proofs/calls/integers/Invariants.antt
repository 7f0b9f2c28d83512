use Rattle.std.proofs.Common.{◌≡◌, [], ◌∷◌, pos, negsuc}
use Rattle.std.specs.List.{flat_map}
use Rattle.spec_calls.specs.Calls.{below}
use Rattle.first_verdicts.proofs.calls.integers.Given as goal

abbrev pub invariant-loop-m : goal.invariant-loop-m
invariant-loop-m l = l.list.items ≡ flat_map (λ m. pos m ∷ negsuc m ∷ []) (below l.m)
