use Rattle.std.proofs.Common.{◌≡◌, ◌^◌, min, length, List, Bool}
use Rattle.bit_gates.specs.Formulas.{Extends}
use Rattle.bit_ints.specs.Halving.{halved}
use Rattle.bit_ints.specs.Integers.{AreBelow, values, integer_of}
use Rattle.bit_ints.proofs.Halves.{low}
use Rattle.bit_ints.proofs.shifts.lowered.Given as goal

abbrev pub invariant-loop-i : goal.invariant-loop-i
invariant-loop-i l = record {
  size : length l.digits.items ≡ length l.a;
  places : l.places ≡ min l.last (2 ^ l.i);
  grown : Extends l.initial.g.gates l.g.gates;
  inputs : l.g.inputs ≡ l.initial.g.inputs;
  below : AreBelow (length l.g.gates) l.digits.items;
  value : (bits : List Bool) → integer_of l.g.gates bits l.digits.items ≡ halved (low l.i (values l.initial.g.gates bits l.b)) (integer_of l.initial.g.gates bits l.a);
}
