use Rattle.std.proofs.Common.{◌≡◌, ◌++◌, length, drop, List, Bool}
use Rattle.bit_gates.specs.Formulas.{Extends, value_of}
use Rattle.bit_ints.specs.Integers.{AreBelow, values, zip_with}
use Rattle.bit_ints.proofs.Halves.{either}
use Rattle.bit_ints.proofs.shifts.chosen.Given as goal

abbrev pub invariant-loop-i : goal.invariant-loop-i
invariant-loop-i l = record {
  size : length l.digits.items ≡ l.i;
  grown : Extends l.initial.g.gates l.g.gates;
  inputs : l.g.inputs ≡ l.initial.g.inputs;
  below : AreBelow (length l.g.gates) l.digits.items;
  value : (bits : List Bool) → values l.g.gates bits l.digits.items ++ zip_with (either (value_of l.initial.g.gates bits l.by)) (drop l.i (values l.initial.g.gates bits l.yes)) (drop l.i (values l.initial.g.gates bits l.no)) ≡ zip_with (either (value_of l.initial.g.gates bits l.by)) (values l.initial.g.gates bits l.yes) (values l.initial.g.gates bits l.no);
}
