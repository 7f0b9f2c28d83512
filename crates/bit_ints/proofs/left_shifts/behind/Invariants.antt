use Rattle.std.proofs.Common.{◌≡◌, replicate}
use Rattle.bit_ints.proofs.left_shifts.behind.Given as goal

abbrev pub invariant-loop-place : goal.invariant-loop-place
invariant-loop-place l = l.digits.items ≡ replicate l._place l.low
