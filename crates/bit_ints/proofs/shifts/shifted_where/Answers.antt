use Rattle.std.proofs.Common.{◌≤◌, length, drop, arith, ap, length-drop}
use Rattle.bit_gates.specs.Formulas.{value_of}
use Rattle.bit_ints.specs.Integers.{values}
use Rattle.bit_ints.proofs.Digits.{below_drop, below_extended, extended-length}
use Rattle.bit_ints.proofs.Halves.{integer-either, integer-shifted}
use Rattle.bit_ints.proofs.shifts.shifted_where.Goals as goal

pub chosen-requires-clause-same : goal.chosen-requires-clause-same
chosen-requires-clause-same c =
    let left = length-drop c.args.places c.args.lits.now in
    let some : 1 ≤ length (drop c.args.places c.args.lits.now) = omega arith in
    omega (arith, ap length c.deref.ensures.value, ap length c.in_ok-moved.ensures, extended-length c.args.places (drop c.args.places c.args.lits.now) some)

pub chosen-requires-clause-yes : goal.chosen-requires-clause-yes
chosen-requires-clause-yes c = rw (c.deref.ensures.value, c.in_ok-moved.ensures) (below_extended _ c.args.places _ (below_drop _ c.args.places c.args.lits.now c.requires.below))

pub returns-clause-value : goal.returns-clause-value
returns-clause-value c = λ bits.
    let gates = c.args.g.now.gates in
    let v = rw c.deref.ensures.value at (c.in_ok-digits.ensures.value bits) in
    integer-either (value_of gates bits c.args.by) (values gates bits c.in_ok-moved.moved.items) (values gates bits c.args.lits.now) _ _ v (integer-shifted gates bits c.args.lits.now c.in_ok-moved.moved.items c.args.places c.requires.places c.in_ok-moved.ensures)
