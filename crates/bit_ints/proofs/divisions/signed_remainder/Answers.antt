use Rattle.std.proofs.Common.{◌≡◌, ◌-◌, ◌≤◌, ◌^◌, suc, min, [], length, arith, ap, sym, ◌∙◌}
use Rattle.std.proofs.lemmas.List.{append-nil}
use Rattle.bit_gates.specs.Formulas.{Extends}
use Rattle.bit_gates.proofs.Arenas.{value_kept}
use Rattle.bit_ints.specs.Integers.{is_within}
use Rattle.bit_ints.proofs.Digits.{below_later, below_take, grown_length, grown_more, values_kept}
use Rattle.bit_ints.proofs.Narrowing.{narrowed-is}
use Rattle.bit_ints.proofs.divisions.signed_remainder.Goals as goal

pub flipped_where-requires-clause-below : goal.flipped_where-requires-clause-below
flipped_where-requires-clause-below c = below_later _ _ _ c.requires.rest (grown_length _ _ c.in_ok-differ.ensures.grown)

pub masked-requires-clause-left : goal.masked-requires-clause-left
masked-requires-clause-left c = below_later _ _ _ c.requires.divisor (grown_length _ _ (grown_more _ _ _ c.in_ok-differ.ensures.grown c.in_ok-flipped.ensures.grown))

pub sum_with_carry-requires-clause-left : goal.sum_with_carry-requires-clause-left
sum_with_carry-requires-clause-left c = below_later _ _ _ c.in_ok-flipped.ensures.below (grown_length _ _ c.in_ok-row.ensures.grown)

pub returns-clause-below : goal.returns-clause-below
returns-clause-below c = rw c.in_ok-remainder.ensures (below_take _ c.len.result _ c.in_ok-sum.ensures.below)

pub returns-clause-value : goal.returns-clause-value
returns-clause-value c = λ bits. λ within.
    let second = grown_more _ _ _ c.in_ok-differ.ensures.grown c.in_ok-flipped.ensures.grown in
    let third = grown_more _ _ _ second c.in_ok-row.ensures.grown in
    let rest = values_kept _ _ bits c.args.rest.now c.in_ok-differ.ensures.grown c.requires.rest in
    let b = values_kept _ _ bits c.args.b.now second c.requires.divisor in
    let below = value_kept _ _ bits c.args.below second c.requires.below in
    let negative = value_kept _ _ bits c.args.negative third c.requires.negative in
    let flipped_kept = values_kept _ _ bits c.in_ok-flipped.flipped c.in_ok-row.ensures.grown c.in_ok-flipped.ensures.below in
    let flipped = rw (c.in_ok-differ.ensures.value bits, rest) at (c.in_ok-flipped.ensures.value bits) in
    let row = rw (below, b) at (c.in_ok-row.ensures.value bits) in
    let sum = rw (flipped_kept, flipped, row, negative) at (c.in_ok-sum.ensures.value bits) in
    let size : c.len.result ≡ min (length c.in_ok-sum.sum) (suc (length c.args.b.now - 1)) = omega (arith, c.len.ensures.digits, c.in_ok-sum.ensures.width, c.in_ok-row.ensures.width, c.requires.some) in
    let same : Extends c.sum_with_carry.new.g.gates c.sum_with_carry.new.g.gates = record { more = []; is = sym (append-nil c.sum_with_carry.new.g.gates) } in
    let some : 1 ≤ length c.in_ok-sum.sum = omega (arith, c.in_ok-sum.ensures.width) in
    narrowed-is c.sum_with_carry.new.g.gates c.sum_with_carry.new.g.gates bits (length c.args.b.now - 1) c.len.result c.in_ok-sum.sum c.in_ok-remainder.remainder same c.in_ok-sum.ensures.below some c.in_ok-remainder.ensures size (ap (is_within (2 ^ (length c.args.b.now - 1))) sum ∙ within) ∙ sum
