use Rattle.std.proofs.Common.{◌≡◌, ◌≤◌, ◌+ℤ◌, ◌*ℤ◌, length, drop, List, Bool}
use Rattle.bit_gates.specs.Formulas.{Extends}
use Rattle.bit_ints.specs.Integers.{AreBelow, values, integer, integer_of}
use Rattle.bit_ints.proofs.Sums.{onto}
use Rattle.bit_ints.proofs.products.product.Given as goal

abbrev pub invariant-loop-i : goal.invariant-loop-i
invariant-loop-i l = record {
  size : length l.digits.items ≡ l.i;
  width : length l.rest ≤ length l.a;
  grown : Extends l.initial.g.gates l.g.gates;
  inputs : l.g.inputs ≡ l.initial.g.inputs;
  below : AreBelow (length l.g.gates) l.digits.items;
  rest_below : AreBelow (length l.g.gates) l.rest;
  value : (bits : List Bool) → onto (values l.g.gates bits l.digits.items) (integer_of l.g.gates bits l.rest +ℤ integer_of l.initial.g.gates bits l.a *ℤ integer (drop l.i (values l.initial.g.gates bits l.b))) ≡ integer_of l.initial.g.gates bits l.a *ℤ integer_of l.initial.g.gates bits l.b;
}
