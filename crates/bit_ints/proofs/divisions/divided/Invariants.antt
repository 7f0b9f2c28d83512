use Rattle.std.proofs.Common.{◌≡◌, ◌+◌, ◌-◌, ◌≤◌, ◌+ℤ◌, ◌*ℤ◌, ◌≤ℤ◌, ◌<ℤ◌, pos, length, drop, List, Bool}
use Rattle.bit_gates.specs.Formulas.{Extends}
use Rattle.bit_ints.specs.Dividing.{IsNaturalBelow}
use Rattle.bit_ints.specs.Integers.{AreBelow, values, integer, integer_of}
use Rattle.bit_ints.proofs.divisions.divided.Given as goal

abbrev pub invariant-loop-i : goal.invariant-loop-i
invariant-loop-i l = record {
  quotient_size : length l.quotient ≡ l.i + 1;
  some : 1 ≤ length l.rest;
  few : length l.rest ≤ length l.b;
  grown : Extends l.initial.g.gates l.g.gates;
  inputs : l.g.inputs ≡ l.initial.g.inputs;
  quotient_below : AreBelow (length l.g.gates) l.quotient;
  rest_below : AreBelow (length l.g.gates) l.rest;
  value : (bits : List Bool) → pos 0 ≤ℤ integer_of l.initial.g.gates bits l.a → pos 0 <ℤ integer_of l.initial.g.gates bits l.b → integer (drop (l.last - l.i) (values l.initial.g.gates bits l.a)) ≡ integer_of l.initial.g.gates bits l.b *ℤ integer_of l.g.gates bits l.quotient +ℤ integer_of l.g.gates bits l.rest;
  remainder : (bits : List Bool) → pos 0 ≤ℤ integer_of l.initial.g.gates bits l.a → pos 0 <ℤ integer_of l.initial.g.gates bits l.b → IsNaturalBelow (integer_of l.initial.g.gates bits l.b) (integer_of l.g.gates bits l.rest);
}
