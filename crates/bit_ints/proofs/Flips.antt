-- Integers in two's complement with each digit negated where a digit is true.
use Rattle.std.proofs.Common.{◌≡◌, ℕ, zero, suc, ◌-◌, ◌≤◌, Bool, true, false, not, List, [], ◌∷◌, length, map, ℤ, pos, negsuc, neg_ℤ, ◌+ℤ◌, ◌-ℤ◌, if◌then◌else◌, refl, ◌∙◌, ap, arith}
use Rattle.std.proofs.lemmas.Int.{ints}
use Rattle.bit_ints.specs.Integers.{integer, extended_by, zip_with, bitwise, xor}
use Rattle.bit_ints.proofs.Rows.{more_signs}
use Rattle.bit_ints.proofs.Sums.{digit, integer-not}

-- a digit that differs from true
xor_true : (x : Bool) → xor x true ≡ not x
xor_true true = refl
xor_true false = refl

-- a digit that differs from false
xor_false : (x : Bool) → xor x false ≡ x
xor_false true = refl
xor_false false = refl

-- digits that differ from true
zip-true : (k : ℕ) (xs : List Bool) → length xs ≡ suc k → zip_with xor xs (extended_by k (true ∷ [])) ≡ map not xs
zip-true k [] h = absurd (omega arith)
zip-true zero (x ∷ []) h = ap (λ d. d ∷ []) (xor_true x)
zip-true (suc k) (x ∷ []) h = absurd (omega arith)
zip-true zero (x ∷ y ∷ xs) h = absurd (omega arith)
zip-true (suc k) (x ∷ y ∷ xs) h =
    ap (zip_with xor (x ∷ y ∷ xs)) (more_signs k true) ∙ ap (λ d. d ∷ zip_with xor (y ∷ xs) (extended_by k (true ∷ []))) (xor_true x) ∙ ap (λ ds. not x ∷ ds) (zip-true k (y ∷ xs) (omega arith))

-- digits that differ from false
zip-false : (k : ℕ) (xs : List Bool) → length xs ≡ suc k → zip_with xor xs (extended_by k (false ∷ [])) ≡ xs
zip-false k [] h = absurd (omega arith)
zip-false zero (x ∷ []) h = ap (λ d. d ∷ []) (xor_false x)
zip-false (suc k) (x ∷ []) h = absurd (omega arith)
zip-false zero (x ∷ y ∷ xs) h = absurd (omega arith)
zip-false (suc k) (x ∷ y ∷ xs) h =
    ap (zip_with xor (x ∷ y ∷ xs)) (more_signs k false) ∙ ap (λ d. d ∷ zip_with xor (y ∷ xs) (extended_by k (false ∷ []))) (xor_false x) ∙ ap (λ ds. x ∷ ds) (zip-false k (y ∷ xs) (omega arith))

-- the integer of digits that differ from one digit
flipped_digits : (s : Bool) (xs : List Bool) → 1 ≤ length xs → integer (zip_with xor xs (extended_by (length xs - 1) (s ∷ []))) ≡ (if s then negsuc 0 -ℤ integer xs else integer xs)
flipped_digits true xs h = ap integer (zip-true (length xs - 1) xs (omega arith)) ∙ integer-not xs h
flipped_digits false xs h = ap integer (zip-false (length xs - 1) xs (omega arith))

-- the exclusive disjunction with an integer of one digit
pub flipped-is : (s : Bool) (xs : List Bool) → 1 ≤ length xs → integer (bitwise xor xs (s ∷ [])) ≡ (if s then negsuc 0 -ℤ integer xs else integer xs)
flipped-is s xs h =
    let e : 1 - length xs ≡ 0 = omega arith in
    ap (λ n. integer (zip_with xor (extended_by n xs) (extended_by (length xs - 1) (s ∷ [])))) e ∙ flipped_digits s xs h

-- one more than -1 less an integer is its negation
pub negated-is : (s : Bool) (z w t u : ℤ) → w ≡ (if s then negsuc 0 -ℤ z else z) → t ≡ pos 0 → u ≡ w +ℤ t +ℤ digit s → u ≡ (if s then neg_ℤ z else z)
negated-is true z w t u e f h = omega (arith, ints)
negated-is false z w t u e f h = omega (arith, ints)

-- a sum with -1 less an integer, and one more, is the difference
pub difference-is : (s : Bool) (x z w u : ℤ) → s ≡ true → w ≡ (if s then negsuc 0 -ℤ z else z) → u ≡ x +ℤ w +ℤ digit s → u ≡ x -ℤ z
difference-is true x z w u t e f = omega (arith, ints)
difference-is false x z w u t e f = absurd (cc)
