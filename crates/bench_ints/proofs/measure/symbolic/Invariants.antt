use Rattle.std.proofs.Common.{◌≡◌, length}
use Rattle.bit_gates.specs.Formulas.{Extends}
use Rattle.bit_ints.specs.Integers.{AreBelow}
use Rattle.bench_ints.proofs.measure.symbolic.Given as goal

abbrev pub invariant-loop-digit : goal.invariant-loop-digit
invariant-loop-digit l = record {
  size : length l.lits.items ≡ l._digit;
  below : AreBelow (length l.g.gates) l.lits.items;
  grown : Extends l.initial.g.gates l.g.gates;
}
