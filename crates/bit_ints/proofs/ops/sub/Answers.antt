use Rattle.bit_gates.specs.Formulas.{value_of}
use Rattle.bit_gates.proofs.Arenas.{value_kept}
use Rattle.bit_ints.proofs.Digits.{below_later, grown_length, values_kept}
use Rattle.bit_ints.proofs.Flips.{difference-is}
use Rattle.bit_ints.proofs.ops.sub.Goals as goal

pub sum_with_carry-requires-clause-left : goal.sum_with_carry-requires-clause-left
sum_with_carry-requires-clause-left c = below_later _ _ _ c.requires.left (grown_length _ _ c.in_ok-flipped.ensures.grown)

pub returns-clause-value : goal.returns-clause-value
returns-clause-value c = λ bits.
    let grown = c.in_ok-flipped.ensures.grown in
    let carry = value_kept _ _ bits c.constant-carry.result grown c.constant-carry.ensures.below in
    let a = values_kept _ _ bits c.args.a.now grown c.requires.left in
    let sum = rw (carry, a) at (c.in_ok-difference.ensures.value bits) in
    difference-is (value_of c.args.g.now.gates bits c.constant-carry.result) _ _ _ _ (c.constant-carry.ensures.value bits) (c.in_ok-flipped.ensures.value bits) sum
