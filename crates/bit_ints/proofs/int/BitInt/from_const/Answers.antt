use Rattle.std.proofs.Common.{◌≡◌, ◌==◌, Bool, List, length, ℕ, zero, suc, ◌+◌, ◌-◌, ◌<◌, ◌≤◌, ◌/◌, ◌%◌, ◌^◌, true, false, not, [], ◌∷◌, ◌++◌, ℤ, refl, ◌∙◌, ap, arith, length-append}
use Rattle.std.specs.Bool.{beq}
use Rattle.std.proofs.lemmas.Int.{to_z-of_z}
use Rattle.std.proofs.lemmas.List.{map-append}
use Rattle.bit_gates.specs.declared.lit.Gate.{Gate}
use Rattle.bit_gates.specs.declared.lit.Lit.{Lit}
use Rattle.bit_gates.specs.Formulas.{value_of}
use Rattle.bit_ints.specs.Integers.{integer_of, values, xor}
use Rattle.bit_ints.proofs.Sums.{onto, onto-push, integer-onto, signed, halves}
use Rattle.bit_ints.proofs.Digits.{below_push}
use Rattle.bit_ints.proofs.int.BitInt.from_const.Goals as goal

-- different truth values
differ : (x y : Bool) → not (beq x y) ≡ xor x y
differ true true = refl
differ true false = refl
differ false true = refl
differ false false = refl

-- one digit more
step : (gates : List Gate) (bits : List Bool) (lits new : List Lit) (a : Lit) (negative : Bool) (n : ℕ) (z : ℤ) → new ≡ lits ++ a ∷ [] → value_of gates bits a ≡ xor (n % 2 == 1) negative → onto (values gates bits lits) (signed negative n) ≡ z → onto (values gates bits new) (signed negative (n / 2)) ≡ z
step gates bits lits new a negative n z is value e =
    rw (is, map-append (value_of gates bits) lits (a ∷ []), onto-push (values gates bits lits) (value_of gates bits a) (signed negative (n / 2)), value, halves negative n) e

-- the sign
last : (gates : List Gate) (bits : List Bool) (lits new : List Lit) (a : Lit) (negative : Bool) (z : ℤ) → new ≡ lits ++ a ∷ [] → value_of gates bits a ≡ negative → onto (values gates bits lits) (signed negative 0) ≡ z → integer_of gates bits new ≡ z
last gates bits lits new a true z is value e =
    rw (is, map-append (value_of gates bits) lits (a ∷ []), integer-onto (values gates bits lits) (value_of gates bits a), value) e
last gates bits lits new a false z is value e =
    rw (is, map-append (value_of gates bits) lits (a ∷ []), integer-onto (values gates bits lits) (value_of gates bits a), value) e

-- half of what fits in a digit more
half : (n k : ℕ) → 0 < n → n < 2 ^ k → (n / 2 < 2 ^ (k - 1)) × (1 ≤ k)
half n zero p h = absurd (omega arith)
half n (suc k) p h = let e : suc k - 1 ≡ k = omega arith in rw e (omega arith, omega arith)

pub loop-rest-preserved : goal.loop-rest-preserved
loop-rest-preserved c =
    let is = c.in_ok-push.ensures.items in
    let size : length c.push.new.self.items ≡ length c.loop-rest.lits.items + 1 = ap length is ∙ length-append c.loop-rest.lits.items (c.constant.result ∷ []) in
    let smaller = half c.loop-rest.rest (127 - length c.loop-rest.lits.items) c.loop-rest-test.true c.loop-rest.invariant.small in
    let less : 127 - length c.loop-rest.lits.items - 1 ≡ 127 - length c.push.new.self.items = omega arith in
    record {
      below = rw is (below_push _ _ _ c.loop-rest.invariant.below c.constant.ensures.below);
      value = λ bits. step _ bits _ _ _ _ _ _ is (c.constant.ensures.value bits ∙ differ _ _) (c.loop-rest.invariant.value bits);
      small = rw (← less) smaller.0;
      few = omega arith;
    }

pub returns-clause-below : goal.returns-clause-below
returns-clause-below c = rw (c.from_vec.ensures, c.in_ok-push-2.ensures.items) (below_push _ _ _ c.loop-rest.invariant.below c.constant-2.ensures.below)

pub returns-clause-value : goal.returns-clause-value
returns-clause-value c = λ bits.
    let none : c.loop-rest.rest ≡ 0 = omega arith in
    let e = rw none at (c.loop-rest.invariant.value bits) in
    rw c.from_vec.ensures (last _ bits _ _ _ _ _ c.in_ok-push-2.ensures.items (c.constant-2.ensures.value bits) e ∙ to_z-of_z _ c.args.v c.ranges.v)

pub returns-clause-few : goal.returns-clause-few
returns-clause-few c = rw (c.from_vec.ensures, c.in_ok-push-2.ensures.items) (omega (arith, length-append c.loop-rest.lits.items (c.constant-2.result ∷ [])))

pub returns-clause-some : goal.returns-clause-some
returns-clause-some c = rw (c.from_vec.ensures, c.in_ok-push-2.ensures.items) (omega (arith, length-append c.loop-rest.lits.items (c.constant-2.result ∷ [])))
