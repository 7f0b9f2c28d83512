use Rattle.std.proofs.Common.{◌≡◌, ◌<◌, length, drop, List, Bool}
use Rattle.bit_gates.specs.Formulas.{Extends, value_of}
use Rattle.bit_ints.specs.Integers.{values, sign, sum_bits}
use Rattle.bit_ints.proofs.lists.sum_sign.Given as goal

abbrev pub invariant-loop-i : goal.invariant-loop-i
invariant-loop-i l = record {
  grown : Extends l.initial.g.gates l.g.gates;
  inputs : l.g.inputs ≡ l.initial.g.inputs;
  carry_below : l.carry.place < length l.g.gates;
  value : (bits : List Bool) → sign (sum_bits (value_of l.g.gates bits l.carry) (drop l.i (values l.initial.g.gates bits l.xs)) (drop l.i (values l.initial.g.gates bits l.ys))) ≡ sign (sum_bits (value_of l.initial.g.gates bits l.initial.carry) (values l.initial.g.gates bits l.xs) (values l.initial.g.gates bits l.ys));
}
