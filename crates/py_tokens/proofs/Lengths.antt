-- Whether something is left, and whether numbers are equal.
use Rattle.std.proofs.Common.{◌≡◌, ℕ, ◌<◌, Bool, true, false, ◌==◌, List, [], ◌∷◌, length, refl, arith}
use Rattle.std.proofs.lemmas.Bool.{eqb-true, eq-eqb}

-- a list that is not empty has items
pub some_left : {A : Type 0} (s : List A) → (length s == 0) ≡ false → 0 < length s
some_left [] h = absurd cc
some_left (c ∷ s) h = omega arith

-- a list that is empty has none
pub none_left : {A : Type 0} (s : List A) → (length s == 0) ≡ true → length s ≡ 0
none_left s h = eqb-true (length s) 0 h

-- the test of equality, where it holds and where it does not
pub is_equal : (c n : ℕ) → c ≡ n → (c == n) ≡ true
is_equal c n e = eq-eqb c n e

pub is_other : (c n : ℕ) → (c ≡ n → ⊥) → (c == n) ≡ false
is_other c n differs = at (c == n) refl
  where
    at : (b : Bool) → (c == n) ≡ b → b ≡ false
    at true e = absurd (differs (eqb-true c n e))
    at false e = refl
