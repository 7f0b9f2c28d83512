use Rattle.std.proofs.Common.{refl, ap, ◌∙◌}
use Rattle.bit_gates.proofs.Arenas.{value_kept}
use Rattle.bit_ints.specs.Integers.{integer}
use Rattle.bit_ints.proofs.Digits.{below_later, grown_length, values_kept}
use Rattle.bit_ints.proofs.left_shifts.is_zero_or_short.Goals as goal

pub is_short-requires-clause-below : goal.is_short-requires-clause-below
is_short-requires-clause-below c = below_later _ _ _ c.requires.right (grown_length _ _ c.in_ok-none.ensures.grown)

pub returns-clause-value : goal.returns-clause-value
returns-clause-value c = λ bits. λ n. λ e.
    let b = values_kept _ _ bits c.args.b.now c.in_ok-none.ensures.grown c.requires.right in
    let short = c.in_ok-short.ensures.value bits n (ap integer b ∙ e) in
    let none = value_kept _ _ bits c.in_ok-none.none c.in_ok-short.ensures.grown c.in_ok-none.ensures.below in
    rw (c.in_ok-one.ensures.value bits, none, c.in_ok-none.ensures.value bits, short) refl
