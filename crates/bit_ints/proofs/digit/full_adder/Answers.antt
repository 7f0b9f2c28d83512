use Rattle.std.proofs.Common.{◌≡◌, ◌&&◌, ◌||◌, Bool, true, false, refl}
use Rattle.bit_gates.specs.Formulas.{value_of}
use Rattle.bit_gates.proofs.Arenas.{value_kept}
use Rattle.bit_ints.specs.Integers.{xor, most}
use Rattle.bit_ints.proofs.Digits.{grown_more}
use Rattle.bit_ints.proofs.digit.full_adder.Goals as goal

-- both of two are true, or one of them and the third
carried : (a b c : Bool) → ((a && b) || (xor a b && c)) ≡ most a b c
carried true true true = refl
carried true true false = refl
carried true false true = refl
carried true false false = refl
carried false true true = refl
carried false true false = refl
carried false false true = refl
carried false false false = refl

pub returns-clause-digit : goal.returns-clause-digit
returns-clause-digit c = λ bits.
    let later = grown_more _ _ _ c.in_ok-both.ensures.grown (grown_more _ _ _ c.in_ok-carried.ensures.grown c.in_ok-next.ensures.grown) in
    let digit = value_kept _ _ bits c.in_ok-digit.digit later c.in_ok-digit.ensures.below in
    let carry = value_kept _ _ bits c.args.carry c.in_ok-half.ensures.grown c.requires.carry in
    rw (digit, c.in_ok-digit.ensures.value bits, c.in_ok-half.ensures.value bits, carry) refl

pub returns-clause-next : goal.returns-clause-next
returns-clause-next c = λ bits.
    let second = grown_more _ _ _ c.in_ok-half.ensures.grown c.in_ok-digit.ensures.grown in
    let third = grown_more _ _ _ second c.in_ok-both.ensures.grown in
    let half_later = grown_more _ _ _ c.in_ok-digit.ensures.grown c.in_ok-both.ensures.grown in
    let a = value_kept _ _ bits c.args.a second c.requires.left in
    let b = value_kept _ _ bits c.args.b second c.requires.right in
    let carry = value_kept _ _ bits c.args.carry third c.requires.carry in
    let half = value_kept _ _ bits c.in_ok-half.half half_later c.in_ok-half.ensures.below in
    let both = value_kept _ _ bits c.in_ok-both.both c.in_ok-carried.ensures.grown c.in_ok-both.ensures.below in
    rw (c.in_ok-next.ensures.value bits, both, c.in_ok-both.ensures.value bits, c.in_ok-carried.ensures.value bits, a, b, half, carry, c.in_ok-half.ensures.value bits) (carried (value_of c.args.g.now.gates bits c.args.a) (value_of c.args.g.now.gates bits c.args.b) (value_of c.args.g.now.gates bits c.args.carry))
