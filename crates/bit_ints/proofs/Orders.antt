-- Laws of the order of integers in two's complement, and of their bounds, over truth values.
use Rattle.std.proofs.Common.{◌≡◌, ℕ, zero, suc, ◌<◌, ◌≤◌, Bool, true, false, List, [], ◌∷◌, length, ℤ, pos, negsuc, ◌+ℤ◌, ◌*ℤ◌, ◌-ℤ◌, int_lt, slice_get, Some, None, refl, ◌∙◌, arith}
use Rattle.std.proofs.lemmas.Int.{ints}
use Rattle.bit_gates.specs.declared.lit.Gate.{Gate}
use Rattle.bit_gates.specs.declared.lit.Lit.{Lit}
use Rattle.bit_gates.specs.Formulas.{value_of}
use Rattle.bit_ints.specs.Integers.{integer, values, AreBelow, sign}
use Rattle.bit_ints.proofs.Sums.{digit}

-- a digit in front keeps the sign
sign_step : (b : Bool) (z : ℤ) → int_lt z (pos 0) ≡ int_lt (digit b +ℤ pos 2 *ℤ z) (pos 0)
sign_step true (pos n) = grind (arith, ints)
sign_step true (negsuc n) = grind (arith, ints)
sign_step false (pos n) = grind (arith, ints)
sign_step false (negsuc n) = grind (arith, ints)

-- the sign tells whether an integer is negative
pub sign-lt : (bs : List Bool) → 1 ≤ length bs → sign bs ≡ int_lt (integer bs) (pos 0)
sign-lt [] h = absurd (omega arith)
sign-lt (true ∷ []) h = refl
sign-lt (false ∷ []) h = refl
sign-lt (b ∷ c ∷ bs) h = sign-lt (c ∷ bs) (omega arith) ∙ sign_step b (integer (c ∷ bs))

-- less is a negative difference
pub lt-sub : (x y : ℤ) → int_lt (x -ℤ y) (pos 0) ≡ int_lt x y
lt-sub x y = grind (arith, ints)

-- the last literal has the sign's value
pub sign_at : (gates : List Gate) (bits : List Bool) (lits : List Lit) (k : ℕ) (a : Lit) → slice_get lits k ≡ Some a → length lits ≡ suc k → value_of gates bits a ≡ sign (values gates bits lits)
sign_at gates bits [] k a e h = absurd (omega arith)
sign_at gates bits (x ∷ []) zero a e h = let same : x ≡ a = cc in rw same refl
sign_at gates bits (x ∷ []) (suc k) a e h = absurd (omega arith)
sign_at gates bits (x ∷ y ∷ lits) zero a e h = absurd (omega arith)
sign_at gates bits (x ∷ y ∷ lits) (suc k) a e h = sign_at gates bits (y ∷ lits) k a e (omega arith)

-- a literal at a place is one of the arena's
pub below_get : (n : ℕ) (lits : List Lit) (k : ℕ) (a : Lit) → AreBelow n lits → slice_get lits k ≡ Some a → a.place < n
below_get n [] k a b e = absurd (let h : None ≡ Some a = e in cc)
below_get n (x ∷ lits) zero a b e = let same : x ≡ a = cc in rw (← same) b.0
below_get n (x ∷ lits) (suc k) a b e = below_get n lits k a b.1 e
