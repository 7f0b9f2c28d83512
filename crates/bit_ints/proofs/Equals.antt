-- When integers in two's complement are equal, and when one is within bounds, over truth values.
use Rattle.std.proofs.Common.{◌≡◌, ℕ, zero, suc, ◌-◌, ◌<◌, ◌≤◌, ◌*◌, ◌^◌, Bool, true, false, not, ◌&&◌, List, [], ◌∷◌, length, drop, ℤ, pos, negsuc, neg_ℤ, ◌+ℤ◌, ◌*ℤ◌, ◌<ℤ◌, ◌≤ℤ◌, refl, sym, ◌∙◌, ap, arith}
use Rattle.std.specs.Ordering.{int_eq}
use Rattle.std.proofs.lemmas.Int.{ints}
use Rattle.std.proofs.lemmas.Bool.{ltb-true, lt-ltb, true≢false}
use Rattle.std.proofs.lemmas.List.{length-map, drop_all}
use Rattle.std.proofs.lemmas.Bool.Decides.{Decides-int_eq}
use Rattle.std.proofs.Math.Seq.{drop-nil}
use Rattle.bit_gates.specs.declared.lit.Gate.{Gate}
use Rattle.bit_gates.specs.declared.lit.Lit.{Lit}
use Rattle.bit_gates.specs.Formulas.{value_of}
use Rattle.bit_ints.specs.Integers.{integer, values, extended_by, xor, are_same, is_within}
use Rattle.bit_ints.proofs.Sums.{digit, integer-extended}
use Rattle.bit_ints.proofs.Widths.{values-extended}

-- truth values that imply each other
pub same_tests : (p q : Bool) → (p ≡ true → q ≡ true) → (q ≡ true → p ≡ true) → p ≡ q
same_tests true q f g = sym (f refl)
same_tests false true f g = g refl
same_tests false false f g = refl

-- from -m to m - 1
pub record Within (m : ℕ) (z : ℤ) : Type 0 where
  pub low : neg_ℤ (pos m) ≤ℤ z
  pub high : z <ℤ pos m

-- the test implies the bounds
pub within_from : (m : ℕ) (z : ℤ) → is_within m z ≡ true → Within m z
within_from m (pos n) e = let h = ltb-true n m e in record { low = omega (arith, ints); high = omega (arith, ints) }
within_from m (negsuc n) e = let h = ltb-true n m e in record { low = omega (arith, ints); high = omega (arith, ints) }

-- the bounds imply the test
pub within_to : (m : ℕ) (z : ℤ) → Within m z → is_within m z ≡ true
within_to m (pos n) w = lt-ltb n m (omega (arith, ints, w.high))
within_to m (negsuc n) w = lt-ltb n m (omega (arith, ints, w.low))

-- a digit in front doubles the bounds
pub within_step : (b : Bool) (m n : ℕ) (z : ℤ) → n ≡ 2 * m → is_within m z ≡ is_within n (digit b +ℤ pos 2 *ℤ z)
within_step true m n z e = same_tests _ _
    (λ p. let w = within_from m z p in within_to n _ (record { low = omega (arith, ints, w.low); high = omega (arith, ints, w.high) }))
    (λ p. let w = within_from n _ p in within_to m z (record { low = omega (arith, ints, w.low); high = omega (arith, ints, w.high) }))
within_step false m n z e = same_tests _ _
    (λ p. let w = within_from m z p in within_to n _ (record { low = omega (arith, ints, w.low); high = omega (arith, ints, w.high) }))
    (λ p. let w = within_from n _ p in within_to m z (record { low = omega (arith, ints, w.low); high = omega (arith, ints, w.high) }))

-- a digit in front of each keeps whether two integers are equal, where the digits are the same
eq_step : (x y : Bool) (a b : ℤ) → (not (xor x y) && int_eq a b) ≡ int_eq (digit x +ℤ pos 2 *ℤ a) (digit y +ℤ pos 2 *ℤ b)
eq_step true true a b = same_tests _ _
    (λ p. let e = (Decides-int_eq a b).0 p in (Decides-int_eq (digit true +ℤ pos 2 *ℤ a) (digit true +ℤ pos 2 *ℤ b)).1 (omega (arith, ints)))
    (λ p. let e = (Decides-int_eq (digit true +ℤ pos 2 *ℤ a) (digit true +ℤ pos 2 *ℤ b)).0 p in (Decides-int_eq a b).1 (omega (arith, ints)))
eq_step false false a b = same_tests _ _
    (λ p. let e = (Decides-int_eq a b).0 p in (Decides-int_eq (digit false +ℤ pos 2 *ℤ a) (digit false +ℤ pos 2 *ℤ b)).1 (omega (arith, ints)))
    (λ p. let e = (Decides-int_eq (digit false +ℤ pos 2 *ℤ a) (digit false +ℤ pos 2 *ℤ b)).0 p in (Decides-int_eq a b).1 (omega (arith, ints)))
eq_step true false a b = same_tests _ _ (λ p. absurd (true≢false (sym p)))
    (λ p. let e = (Decides-int_eq (digit true +ℤ pos 2 *ℤ a) (digit false +ℤ pos 2 *ℤ b)).0 p in absurd (omega (arith, ints)))
eq_step false true a b = same_tests _ _ (λ p. absurd (true≢false (sym p)))
    (λ p. let e = (Decides-int_eq (digit false +ℤ pos 2 *ℤ a) (digit true +ℤ pos 2 *ℤ b)).0 p in absurd (omega (arith, ints)))

-- integers of one length are equal where their digits are
pub are_same-eq : (xs ys : List Bool) → length xs ≡ length ys → 1 ≤ length xs → are_same xs ys ≡ int_eq (integer xs) (integer ys)
are_same-eq [] ys e h = absurd (omega arith)
are_same-eq (x ∷ xs) [] e h = absurd (omega arith)
are_same-eq (true ∷ []) (true ∷ []) e h = refl
are_same-eq (true ∷ []) (false ∷ []) e h = refl
are_same-eq (false ∷ []) (true ∷ []) e h = refl
are_same-eq (false ∷ []) (false ∷ []) e h = refl
are_same-eq (x ∷ []) (y ∷ y' ∷ ys) e h = absurd (omega arith)
are_same-eq (x ∷ x' ∷ xs) (y ∷ []) e h = absurd (omega arith)
are_same-eq (x ∷ x' ∷ xs) (y ∷ y' ∷ ys) e h =
    ap (λ t. not (xor x y) && t) (are_same-eq (x' ∷ xs) (y' ∷ ys) (omega arith) (omega arith)) ∙ eq_step x y (integer (x' ∷ xs)) (integer (y' ∷ ys))

-- the same for literals that are extended to one length
pub same_ints : (n : ℕ) (gates : List Gate) (bits : List Bool) (a b xs ys : List Lit) → 1 ≤ length a → 1 ≤ length b → length xs ≡ n → length ys ≡ n → xs ≡ extended_by (n - length a) a → ys ≡ extended_by (n - length b) b → 1 ≤ n → are_same (values gates bits xs) (values gates bits ys) ≡ int_eq (integer (values gates bits a)) (integer (values gates bits b))
same_ints n gates bits a b xs ys h h' size size' is is' some =
    let lx : length (values gates bits xs) ≡ length xs = length-map xs (value_of gates bits) in
    let ly : length (values gates bits ys) ≡ length ys = length-map ys (value_of gates bits) in
    let x = values-extended gates bits (n - length a) (n - length a) a xs is refl in
    let y = values-extended gates bits (n - length b) (n - length b) b ys is' refl in
    let zx : integer (values gates bits xs) ≡ integer (values gates bits a) = ap integer x ∙ integer-extended (n - length a) (values gates bits a) in
    let zy : integer (values gates bits ys) ≡ integer (values gates bits b) = ap integer y ∙ integer-extended (n - length b) (values gates bits b) in
    are_same-eq (values gates bits xs) (values gates bits ys) (omega arith) (omega arith) ∙ ap (λ z. int_eq z (integer (values gates bits ys))) zx ∙ ap (int_eq (integer (values gates bits a))) zy

-- the parity of an integer
record Halved (b : Bool) (z : ℤ) : Type 0 where
  half : ℤ
  is : z ≡ digit b +ℤ pos 2 *ℤ half

-- each integer has the parity of its lowest digit
halved : (b : Bool) (bs : List Bool) → Halved b (integer (b ∷ bs))
halved true [] = record { half = negsuc 0; is = refl }
halved false [] = record { half = pos 0; is = refl }
halved b (c ∷ bs) = record { half = integer (c ∷ bs); is = refl }

-- a digit in front of 0 or -1 gives 0 or -1 where it is the same digit
flat_step : (b c : Bool) (z : ℤ) → Halved c z → (not (xor b c) && is_within 1 z) ≡ is_within 1 (digit b +ℤ pos 2 *ℤ z)
flat_step true true z w = same_tests _ _
    (λ p. let r = within_from 1 z p in let e = w.is in within_to 1 (digit true +ℤ pos 2 *ℤ z) (record { low = omega (arith, ints, r.low, r.high); high = omega (arith, ints, r.low, r.high) }))
    (λ p. let r = within_from 1 (digit true +ℤ pos 2 *ℤ z) p in let e = w.is in within_to 1 z (record { low = omega (arith, ints, r.low, r.high); high = omega (arith, ints, r.low, r.high) }))
flat_step false false z w = same_tests _ _
    (λ p. let r = within_from 1 z p in let e = w.is in within_to 1 (digit false +ℤ pos 2 *ℤ z) (record { low = omega (arith, ints, r.low, r.high); high = omega (arith, ints, r.low, r.high) }))
    (λ p. let r = within_from 1 (digit false +ℤ pos 2 *ℤ z) p in let e = w.is in within_to 1 z (record { low = omega (arith, ints, r.low, r.high); high = omega (arith, ints, r.low, r.high) }))
flat_step true false z w = same_tests _ _ (λ p. absurd (true≢false (sym p)))
    (λ p. let r = within_from 1 (digit true +ℤ pos 2 *ℤ z) p in let e = w.is in absurd (omega (arith, ints, r.low, r.high)))
flat_step false true z w = same_tests _ _ (λ p. absurd (true≢false (sym p)))
    (λ p. let r = within_from 1 (digit false +ℤ pos 2 *ℤ z) p in let e = w.is in absurd (omega (arith, ints, r.low, r.high)))

-- a power of 2 is not 0
pub power_positive : (k : ℕ) → 0 < 2 ^ k
power_positive zero = omega arith
power_positive (suc k) = omega (arith, power_positive k)

-- an integer is within 2 to the k where its digits from the place k on are the same
pub fits-is : (k : ℕ) (bs : List Bool) → 1 ≤ length bs → are_same (drop k bs) (drop (suc k) bs) ≡ is_within (2 ^ k) (integer bs)
fits-is k [] h = absurd (omega arith)
fits-is zero (true ∷ []) h = refl
fits-is zero (false ∷ []) h = refl
fits-is zero (b ∷ c ∷ bs) h =
    ap (λ t. not (xor b c) && t) (fits-is zero (c ∷ bs) (omega arith)) ∙ flat_step b c (integer (c ∷ bs)) (halved c bs)
fits-is (suc k) (true ∷ []) h = rw (drop-nil {A = Bool} k) (sym (lt-ltb 0 (2 ^ suc k) (power_positive (suc k))))
fits-is (suc k) (false ∷ []) h = rw (drop-nil {A = Bool} k) (sym (lt-ltb 0 (2 ^ suc k) (power_positive (suc k))))
fits-is (suc k) (b ∷ c ∷ bs) h = fits-is k (c ∷ bs) (omega arith) ∙ within_step b (2 ^ k) (2 ^ suc k) (integer (c ∷ bs)) (omega arith)

-- fewer digits always fit
pub fits-short : (k : ℕ) (bs : List Bool) → 1 ≤ length bs → length bs ≤ k → true ≡ is_within (2 ^ k) (integer bs)
fits-short k bs h s =
    let none : drop k bs ≡ [] = drop_all k bs s in
    let is : are_same [] (drop (suc k) bs) ≡ is_within (2 ^ k) (integer bs) = rw none at (fits-is k bs h) in
    is
