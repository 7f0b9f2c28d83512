use Rattle.std.proofs.Common.{◌≡◌, ◌++◌, ◌<◌, length, drop, List, Bool}
use Rattle.bit_gates.specs.Formulas.{Extends, value_of}
use Rattle.bit_ints.specs.Integers.{AreBelow, values, sum_bits}
use Rattle.bit_ints.proofs.lists.summed.Given as goal

abbrev pub invariant-loop-i : goal.invariant-loop-i
invariant-loop-i l = record {
  size : length l.digits.items ≡ l.i;
  grown : Extends l.initial.g.gates l.g.gates;
  inputs : l.g.inputs ≡ l.initial.g.inputs;
  below : AreBelow (length l.g.gates) l.digits.items;
  carry_below : l.carry.place < length l.g.gates;
  value : (bits : List Bool) → values l.g.gates bits l.digits.items ++ sum_bits (value_of l.g.gates bits l.carry) (drop l.i (values l.initial.g.gates bits l.xs)) (drop l.i (values l.initial.g.gates bits l.ys)) ≡ sum_bits (value_of l.initial.g.gates bits l.initial.carry) (values l.initial.g.gates bits l.xs) (values l.initial.g.gates bits l.ys);
}
