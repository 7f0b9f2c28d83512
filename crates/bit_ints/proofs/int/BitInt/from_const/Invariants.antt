use Rattle.std.proofs.Common.{◌≡◌, Bool, List, length, ◌-◌, ◌<◌, ◌≤◌, ◌^◌}
use Rattle.bit_ints.specs.Integers.{AreBelow, values}
use Rattle.bit_ints.proofs.Sums.{onto, signed}
use Rattle.bit_ints.proofs.int.BitInt.from_const.Given as goal

abbrev pub invariant-loop-rest : goal.invariant-loop-rest
invariant-loop-rest l = record {
  below : AreBelow (length l.g.gates) l.lits.items;
  value : (bits : List Bool) → onto (values l.g.gates bits l.lits.items) (signed l.negative l.rest) ≡ l.v;
  small : l.rest < 2 ^ (127 - length l.lits.items);
  few : length l.lits.items ≤ 127;
}

abbrev pub decreases-loop-rest : goal.decreases-loop-rest
decreases-loop-rest l = l.rest
