use Rattle.std.proofs.Common.{◌≡◌, ◌++◌, length, drop, List, Bool}
use Rattle.bit_gates.specs.Formulas.{Extends}
use Rattle.bit_ints.specs.Integers.{AreBelow, values, zip_with}
use Rattle.bit_ints.specs.Operations.{meaning}
use Rattle.bit_ints.proofs.lists.combined.Given as goal

abbrev pub invariant-loop-i : goal.invariant-loop-i
invariant-loop-i l = record {
  size : length l.digits.items ≡ l.i;
  grown : Extends l.initial.g.gates l.g.gates;
  inputs : l.g.inputs ≡ l.initial.g.inputs;
  below : AreBelow (length l.g.gates) l.digits.items;
  value : (bits : List Bool) → values l.g.gates bits l.digits.items ++ zip_with (meaning l.operation) (drop l.i (values l.initial.g.gates bits l.xs)) (drop l.i (values l.initial.g.gates bits l.ys)) ≡ zip_with (meaning l.operation) (values l.initial.g.gates bits l.xs) (values l.initial.g.gates bits l.ys);
}
