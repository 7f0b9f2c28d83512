use Rattle.std.proofs.Common.{◌≡◌, ◌&&◌, ◌||◌, Bool, true, false, refl}
use Rattle.bit_gates.specs.Formulas.{value_of}
use Rattle.bit_gates.proofs.Arenas.{value_kept}
use Rattle.bit_ints.specs.Integers.{most}
use Rattle.bit_ints.proofs.Digits.{grown_more}
use Rattle.bit_ints.proofs.digit.majority.Goals as goal

-- both of two are true, or one of them and the third
two_of : (a b c : Bool) → ((a && b) || ((a || b) && c)) ≡ most a b c
two_of true true c = refl
two_of true false true = refl
two_of true false false = refl
two_of false true true = refl
two_of false true false = refl
two_of false false c = refl

pub returns-clause-value : goal.returns-clause-value
returns-clause-value c = λ bits.
    let second = grown_more _ _ _ c.in_ok-both.ensures.grown c.in_ok-either.ensures.grown in
    let a = value_kept _ _ bits c.args.a c.in_ok-both.ensures.grown c.requires.left in
    let b = value_kept _ _ bits c.args.b c.in_ok-both.ensures.grown c.requires.right in
    let third = value_kept _ _ bits c.args.c second c.requires.third in
    let both = value_kept _ _ bits c.in_ok-both.both (grown_more _ _ _ c.in_ok-either.ensures.grown c.in_ok-carried.ensures.grown) c.in_ok-both.ensures.below in
    rw (c.in_ok-two.ensures.value bits, both, c.in_ok-both.ensures.value bits, c.in_ok-carried.ensures.value bits, c.in_ok-either.ensures.value bits, a, b, third) (two_of (value_of c.args.g.now.gates bits c.args.a) (value_of c.args.g.now.gates bits c.args.b) (value_of c.args.g.now.gates bits c.args.c))
