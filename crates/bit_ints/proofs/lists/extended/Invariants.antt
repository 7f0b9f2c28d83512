use Rattle.std.proofs.Common.{◌≡◌, ◌-◌, length}
use Rattle.bit_ints.specs.Integers.{extended_by}
use Rattle.bit_ints.proofs.lists.extended.Given as goal

abbrev pub invariant-loop-place : goal.invariant-loop-place
invariant-loop-place l = l.longer.items ≡ extended_by (l._place - length l.lits) l.lits
