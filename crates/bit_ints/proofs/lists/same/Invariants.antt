use Rattle.std.proofs.Common.{◌≡◌, ◌&&◌, ◌<◌, length, drop, List, Bool}
use Rattle.bit_gates.specs.Formulas.{Extends, value_of}
use Rattle.bit_ints.specs.Integers.{values, are_same}
use Rattle.bit_ints.proofs.lists.same.Given as goal

abbrev pub invariant-loop-i : goal.invariant-loop-i
invariant-loop-i l = record {
  grown : Extends l.initial.g.gates l.g.gates;
  inputs : l.g.inputs ≡ l.initial.g.inputs;
  below : l.all.place < length l.g.gates;
  value : (bits : List Bool) → (value_of l.g.gates bits l.all && are_same (drop l.i (values l.initial.g.gates bits l.xs)) (drop l.i (values l.initial.g.gates bits l.ys))) ≡ are_same (values l.initial.g.gates bits l.xs) (values l.initial.g.gates bits l.ys);
}
