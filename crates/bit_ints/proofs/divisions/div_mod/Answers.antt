use Rattle.std.proofs.Common.{◌-◌, ◌^◌, length, ℤ, arith, ap, subst, sym, ◌∙◌}
use Rattle.std.proofs.lemmas.List.{length-map}
use Rattle.bit_gates.specs.Formulas.{value_of}
use Rattle.bit_gates.proofs.Arenas.{value_kept}
use Rattle.bit_ints.specs.Dividing.{AreFloored}
use Rattle.bit_ints.specs.Integers.{integer, integer_of, values}
use Rattle.bit_ints.proofs.Digits.{below_later, grown_length, grown_more, values_kept}
use Rattle.bit_ints.proofs.Dividing.{signed_sum, divisor_positive, size_positive, floored, remainder_within}
use Rattle.bit_ints.proofs.Narrowing.{own_bounds}
use Rattle.bit_ints.proofs.divisions.div_mod.Goals as goal

pub negated_where-requires-2-clause-below : goal.negated_where-requires-2-clause-below
negated_where-requires-2-clause-below c = below_later _ _ _ c.requires.right (grown_length _ _ c.in_ok-dividend.ensures.grown)

pub is_negative-below-requires : goal.is_negative-below-requires
is_negative-below-requires c = below_later _ _ _ c.in_ok-dividend.ensures.below (grown_length _ _ c.in_ok-divisor.ensures.grown)

pub flipped_where-requires-clause-below : goal.flipped_where-requires-clause-below
flipped_where-requires-clause-below c = below_later _ _ _ c.in_ok-dividend.ensures.below (grown_length _ _ c.in_ok-divisor.ensures.grown)

pub divided-requires-clause-right : goal.divided-requires-clause-right
divided-requires-clause-right c = below_later _ _ _ c.in_ok-divisor.ensures.below (grown_length _ _ c.in_ok-size.ensures.grown)

pub signed_remainder-requires-clause-divisor : goal.signed_remainder-requires-clause-divisor
signed_remainder-requires-clause-divisor c =
    let second = grown_more _ _ _ c.in_ok-dividend.ensures.grown c.in_ok-divisor.ensures.grown in
    let fourth = grown_more _ _ _ second (grown_more _ _ _ c.in_ok-size.ensures.grown c.in_ok-digits.ensures.grown) in
    below_later _ _ _ c.requires.right (grown_length _ _ (grown_more _ _ _ fourth c.in_ok-quotient.ensures.grown))

pub signed_remainder-requires-clause-rest : goal.signed_remainder-requires-clause-rest
signed_remainder-requires-clause-rest c = below_later _ _ _ c.in_ok-digits.ensures.below.1 (grown_length _ _ c.in_ok-quotient.ensures.grown)

pub returns-clause-below : goal.returns-clause-below
returns-clause-below c = (below_later _ _ _ c.in_ok-quotient.ensures.below (grown_length _ _ c.in_ok-remainder.ensures.grown), c.in_ok-remainder.ensures.below)

pub returns-clause-value : goal.returns-clause-value
returns-clause-value c = λ bits. λ h.
    let g0 = c.args.g.now.gates in
    let a = integer_of g0 bits c.args.a.now in
    let b = integer_of g0 bits c.args.b.now in
    let n = value_of g0 bits c.is_negative-negative.result in
    let s = value_of c.negated_where-2.new.g.gates bits c.is_negative-below.result in
    let x = integer_of c.flipped_where.new.g.gates bits c.in_ok-size.size in
    let q = integer_of c.divided.new.g.gates bits c.in_ok-digits.digits in
    let r = integer_of c.divided.new.g.gates bits c.in_ok-digits.rest in
    let q' = integer_of c.flipped_where-2.new.g.gates bits c.in_ok-quotient.quotient in
    let a' = integer_of c.negated_where-2.new.g.gates bits c.in_ok-dividend.dividend in
    let d = integer_of c.flipped_where.new.g.gates bits c.in_ok-divisor.divisor in
    let first = c.in_ok-dividend.ensures.grown in
    let second = grown_more _ _ _ first c.in_ok-divisor.ensures.grown in
    let middle = grown_more _ _ _ c.in_ok-size.ensures.grown c.in_ok-digits.ensures.grown in
    let last = grown_more _ _ _ middle c.in_ok-quotient.ensures.grown in
    let fifth = grown_more _ _ _ second last in
    let negative_below = c.is_negative-negative.ensures.below in
    let n_is = c.is_negative-negative.ensures.value bits in
    let s_is = c.is_negative-below.ensures.value bits in
    let negative_1 = value_kept _ _ bits c.is_negative-negative.result first negative_below in
    let b_1 = values_kept _ _ bits c.args.b.now first c.requires.right in
    let dividend_2 = values_kept _ _ bits c.in_ok-dividend.dividend c.in_ok-divisor.ensures.grown c.in_ok-dividend.ensures.below in
    let dividend = ap integer dividend_2 ∙ c.in_ok-dividend.ensures.value bits in
    let divisor_3 = values_kept _ _ bits c.in_ok-divisor.divisor c.in_ok-size.ensures.grown c.in_ok-divisor.ensures.below in
    let divisor = ap integer divisor_3 ∙ (rw (negative_1, b_1) at (c.in_ok-divisor.ensures.value bits)) in
    let below_4 = value_kept _ _ bits c.is_negative-below.result middle c.is_negative-below.ensures.below in
    let quotient = rw below_4 at (c.in_ok-quotient.ensures.value bits) in
    let size = c.in_ok-size.ensures.value bits in
    let low = size_positive s a' x s_is size in
    let positive = divisor_positive n b d n_is h divisor in
    let found = floored n s a b a' d x q r q' dividend divisor size quotient (c.in_ok-digits.ensures.value bits low positive) (c.in_ok-digits.ensures.remainder bits low positive) in
    let below_5 = value_kept _ _ bits c.is_negative-below.result last c.is_negative-below.ensures.below in
    let negative_5 = value_kept _ _ bits c.is_negative-negative.result fifth negative_below in
    let b_5 = values_kept _ _ bits c.args.b.now fifth c.requires.right in
    let rest_5 = values_kept _ _ bits c.in_ok-digits.rest c.in_ok-quotient.ensures.grown c.in_ok-digits.ensures.below.1 in
    let remainder = rw (below_5, negative_5, b_5, rest_5) at (c.in_ok-remainder.ensures.value bits) in
    let size_b = length-map c.args.b.now (value_of g0 bits) in
    let some = c.in_ok-divisor.ensures.some in
    let own = own_bounds (length c.args.b.now - 1) (values g0 bits c.args.b.now) (omega arith) (omega arith) in
    let remainder_is = remainder (remainder_within (2 ^ (length c.args.b.now - 1)) b (signed_sum s n r b) own found.1) in
    let quotient_6 = ap integer (values_kept _ _ bits c.in_ok-quotient.quotient c.in_ok-remainder.ensures.grown c.in_ok-quotient.ensures.below) in
    subst (λ (z : ℤ). AreFloored a b z (integer_of c.signed_remainder.new.g.gates bits c.in_ok-remainder.remainder)) (sym quotient_6) (subst (λ (z : ℤ). AreFloored a b q' z) (sym remainder_is) found)
