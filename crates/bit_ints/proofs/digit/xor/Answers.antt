use Rattle.std.proofs.Common.{◌≡◌, ◌&&◌, ◌||◌, Bool, true, false, not, refl}
use Rattle.bit_gates.specs.Formulas.{value_of}
use Rattle.bit_gates.proofs.Arenas.{value_kept}
use Rattle.bit_ints.specs.Integers.{xor}
use Rattle.bit_ints.proofs.digit.xor.Goals as goal

-- one of two is true, and not both
one_of : (a b : Bool) → ((a || b) && not (a && b)) ≡ xor a b
one_of true true = refl
one_of true false = refl
one_of false true = refl
one_of false false = refl

pub returns-clause-value : goal.returns-clause-value
returns-clause-value c = λ bits.
    let a = value_kept _ _ bits c.args.a c.in_ok-both.ensures.grown c.requires.left in
    let b = value_kept _ _ bits c.args.b c.in_ok-both.ensures.grown c.requires.right in
    let both = value_kept _ _ bits c.in_ok-both.both c.in_ok-either.ensures.grown c.in_ok-both.ensures.below in
    rw (c.in_ok-one.ensures.value bits, c.in_ok-either.ensures.value bits, c.not-not_both.ensures.value bits, both, c.in_ok-both.ensures.value bits, a, b) (one_of (value_of c.args.g.now.gates bits c.args.a) (value_of c.args.g.now.gates bits c.args.b))
