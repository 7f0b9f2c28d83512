-- Integers in two's complement that are shifted to the left.
use Rattle.std.proofs.Common.{◌≡◌, ℕ, zero, suc, ◌+◌, ◌-◌, ◌*◌, ◌/◌, ◌^◌, ◌<◌, ◌≤◌, min, Bool, true, false, ◌&&◌, ◌||◌, nat_lt, List, [], ◌∷◌, ◌++◌, length, drop, get_or, slice_get, Some, replicate, ℤ, pos, negsuc, neg_ℤ, ◌+ℤ◌, ◌*ℤ◌, if◌then◌else◌, ◌⊎◌, inl, inr, refl, sym, ◌∙◌, ap, subst, length-append, arith}
use Rattle.std.specs.Ordering.{int_eq}
use Rattle.std.proofs.Math.IntN.{one, *ℤ-one, zero-*ℤ, pos-*ℤ-pos, negsuc-*ℤ-pos}
use Rattle.std.proofs.Math.Nat.{suc-mul}
use Rattle.std.proofs.Math.Pow.{pow_mono}
use Rattle.std.proofs.lemmas.Bool.{cases_lt, ltb-true, lt-ltb, le-ltb, ltb-false, true≢false}
use Rattle.std.proofs.lemmas.Bool.Decides.{Decides-int_eq}
use Rattle.std.proofs.lemmas.Int.{ints}
use Rattle.std.proofs.lemmas.List.{length-map}
use Rattle.bit_gates.specs.declared.lit.Gate.{Gate}
use Rattle.bit_gates.specs.declared.lit.Lit.{Lit}
use Rattle.bit_gates.specs.Formulas.{Extends, value_of}
use Rattle.bit_ints.specs.Integers.{AreBelow, integer, integer_of, values, is_within}
use Rattle.bit_ints.proofs.Equals.{same_tests, power_positive}
use Rattle.bit_ints.proofs.Halves.{half_left, low, low-next, low-is}
use Rattle.bit_ints.proofs.Narrowing.{own_number}
use Rattle.bit_ints.proofs.Rows.{integer-cons, times-sum, twice, got_later}
use Rattle.bit_ints.proofs.Sums.{digit}

-- a product with the next power of two
power_next : (z : ℤ) (k : ℕ) → z *ℤ pos (2 ^ suc k) ≡ pos 2 *ℤ (z *ℤ pos (2 ^ k))
power_next z k =
    let e : 2 ^ suc k ≡ 2 ^ k + 2 ^ k = omega arith in
    ap (λ n. z *ℤ pos n) e ∙ times-sum z (pos (2 ^ k)) (pos (2 ^ k)) ∙ sym (twice (z *ℤ pos (2 ^ k)))

-- a product with 1
power_none : (z : ℤ) → z *ℤ pos (2 ^ 0) ≡ z
unfolding one
power_none z = *ℤ-one z

-- products with two powers of two
power_add : (z : ℤ) (m k : ℕ) → (z *ℤ pos (2 ^ m)) *ℤ pos (2 ^ k) ≡ z *ℤ pos (2 ^ (m + k))
power_add z m zero = let e : m ≡ m + 0 = omega arith in power_none (z *ℤ pos (2 ^ m)) ∙ ap (λ n. z *ℤ pos (2 ^ n)) e
power_add z m (suc k) =
    let e : suc (m + k) ≡ m + suc k = omega arith in
    power_next (z *ℤ pos (2 ^ m)) k ∙ ap (λ w. pos 2 *ℤ w) (power_add z m k) ∙ sym (power_next z (m + k)) ∙ ap (λ n. z *ℤ pos (2 ^ n)) e

-- 0 shifted is 0
pub none_raised : (k : ℕ) (z w : ℤ) → w ≡ z *ℤ pos (2 ^ k) → z ≡ pos 0 → w ≡ pos 0
none_raised k z w is e = is ∙ ap (λ y. y *ℤ pos (2 ^ k)) e ∙ zero-*ℤ (pos (2 ^ k))

-- a false digit in front doubles
false_front : (b : Bool) (z w : ℤ) → b ≡ false → z ≡ w → digit b +ℤ pos 2 *ℤ z ≡ pos 2 *ℤ w
false_front true z w f e = absurd (true≢false f)
false_front false z w f e = omega (arith, ints)

-- literals behind false ones
pub raised-is : (gates : List Gate) (bits : List Bool) (p : ℕ) (low : Lit) (lits : List Lit) → value_of gates bits low ≡ false → 1 ≤ length lits → integer_of gates bits (replicate p low ++ lits) ≡ integer_of gates bits lits *ℤ pos (2 ^ p)
raised-is gates bits zero low lits f h = sym (power_none (integer_of gates bits lits))
raised-is gates bits (suc p) low lits f h =
    let size = length-map (replicate p low ++ lits) (value_of gates bits) in
    let more = length-append (replicate p low) lits in
    integer-cons (value_of gates bits low) (values gates bits (replicate p low ++ lits)) (omega arith) ∙ false_front (value_of gates bits low) _ _ f (raised-is gates bits p low lits f h) ∙ sym (power_next (integer_of gates bits lits) p)

-- the integer of one of two lists
pub one_of : (s : Bool) (xs ys zs : List Bool) (w z : ℤ) → zs ≡ (if s then xs else ys) → integer xs ≡ w → integer ys ≡ z → integer zs ≡ (if s then w else z)
one_of true xs ys zs w z e f h = ap integer e ∙ f
one_of false xs ys zs w z e f h = ap integer e ∙ h

-- a shift by one digit of the number of places
place_step : (t : Bool) (z w : ℤ) (m p i : ℕ) → p ≡ 2 ^ i → w ≡ (if t then (z *ℤ pos (2 ^ m)) *ℤ pos (2 ^ p) else z *ℤ pos (2 ^ m)) → w ≡ z *ℤ pos (2 ^ (m + (if t then 2 ^ i else 0)))
place_step true z w m p i e f = f ∙ power_add z m p ∙ ap (λ n. z *ℤ pos (2 ^ (m + n))) e
place_step false z w m p i e f = let none : m ≡ m + 0 = omega arith in f ∙ ap (λ n. z *ℤ pos (2 ^ n)) none

-- one literal of the number of places
pub raise_turn : (g0 g1 g2 : List Gate) (bits : List Bool) (b digits moved : List Lit) (i p : ℕ) (by : Lit) (z : ℤ) → Extends g0 g1 → AreBelow (length g0) b → i < length b → slice_get b i ≡ Some by → p ≡ 2 ^ i → integer_of g2 bits moved ≡ (if value_of g1 bits by then integer_of g1 bits digits *ℤ pos (2 ^ p) else integer_of g1 bits digits) → integer_of g1 bits digits ≡ z *ℤ pos (2 ^ low i (values g0 bits b)) → integer_of g2 bits moved ≡ z *ℤ pos (2 ^ low (i + 1) (values g0 bits b))
raise_turn g0 g1 g2 bits b digits moved i p by z e bb h is places v inv =
    let size = length-map b (value_of g0 bits) in
    let t = get_or (values g0 bits b) i false in
    let m = low i (values g0 bits b) in
    let next : i + 1 ≡ suc i = omega arith in
    let more : low (i + 1) (values g0 bits b) ≡ m + (if t then 2 ^ i else 0) = ap (λ k. low k (values g0 bits b)) next ∙ low-next i (values g0 bits b) (omega arith) in
    let step : integer_of g2 bits moved ≡ (if t then (z *ℤ pos (2 ^ m)) *ℤ pos (2 ^ p) else z *ℤ pos (2 ^ m)) =
    v ∙ ap (λ s. if s then integer_of g1 bits digits *ℤ pos (2 ^ p) else integer_of g1 bits digits) (got_later g0 g1 bits b i by e bb is) ∙ ap (λ w. if t then w *ℤ pos (2 ^ p) else w) inv in
    place_step t z (integer_of g2 bits moved) m p i places step ∙ ap (λ n. z *ℤ pos (2 ^ n)) (sym more)

-- the whole number of places
pub raise_end : (bs : List Bool) (k n : ℕ) (z w : ℤ) → k < length bs → integer bs ≡ pos n → n < 2 ^ k → w ≡ z *ℤ pos (2 ^ low k bs) → w ≡ z *ℤ pos (2 ^ n)
raise_end bs k n z w h e s is = is ∙ ap (λ m. z *ℤ pos (2 ^ m)) (low-is k bs n h e s)

-- no number is below 1 but 0
below_one : (n : ℕ) → int_eq (pos n) (pos 0) ≡ nat_lt n 1
below_one n = same_tests _ _
    (λ p. let e = (Decides-int_eq (pos n) (pos 0)).0 p in lt-ltb n 1 (omega (arith, ints)))
    (λ p. let h = ltb-true n 1 p in (Decides-int_eq (pos n) (pos 0)).1 (omega (arith, ints)))

-- half of a number is below half of a power of two
below_half : (n k : ℕ) → nat_lt (n / 2) (2 ^ k) ≡ nat_lt n (2 ^ suc k)
below_half n k = same_tests _ _
    (λ p. let h = ltb-true (n / 2) (2 ^ k) p in lt-ltb n (2 ^ suc k) (omega arith))
    (λ p. let h = ltb-true n (2 ^ suc k) p in lt-ltb (n / 2) (2 ^ k) (omega arith))

-- a number is below a power of two where its digits from that place on are those of 0
pub short-is : (k : ℕ) (bs : List Bool) (n : ℕ) → k < length bs → integer bs ≡ pos n → int_eq (integer (drop k bs)) (pos 0) ≡ nat_lt n (2 ^ k)
short-is zero bs n h e = ap (λ z. int_eq z (pos 0)) e ∙ below_one n
short-is (suc k) [] n h e = absurd (omega arith)
short-is (suc k) (b ∷ []) n h e = absurd (omega arith)
short-is (suc k) (b ∷ c ∷ bs) n h e = short-is k (c ∷ bs) (n / 2) (omega arith) (half_left b (integer (c ∷ bs)) n e) ∙ below_half n k

-- a multiple that is not 0 is no less
multiple : (m p : ℕ) → p ≤ suc m * p
multiple m p = omega (arith, suc-mul m p)

-- what is below -m is not from -m to m - 1
far_below : (m x : ℕ) → m < x → is_within m (neg_ℤ (pos x)) ≡ false
far_below m zero h = absurd (omega arith)
far_below m (suc x) h = le-ltb x m (omega arith)

-- what is not 0 is too wide once it is shifted far
pub too_wide : (m n : ℕ) (z : ℤ) → m < n → int_eq z (pos 0) ≡ false → is_within (2 ^ m) (z *ℤ pos (2 ^ n)) ≡ false
too_wide m n (pos zero) h e = absurd (true≢false e)
too_wide m n (pos (suc x)) h e =
    let far : 2 ^ suc m ≤ 2 ^ n = pow_mono h in
    let most = multiple x (2 ^ n) in
    ap (is_within (2 ^ m)) (pos-*ℤ-pos (suc x) (2 ^ n)) ∙ le-ltb (suc x * 2 ^ n) (2 ^ m) (omega arith)
too_wide m n (negsuc x) h e =
    let far : 2 ^ suc m ≤ 2 ^ n = pow_mono h in
    let most = multiple x (2 ^ n) in
    let more = power_positive m in
    ap (is_within (2 ^ m)) (negsuc-*ℤ-pos x (2 ^ n)) ∙ far_below (2 ^ m) (suc x * 2 ^ n) (omega arith)

-- a conjunction with true
and_true : (p : Bool) → (p && true) ≡ p
and_true true = refl
and_true false = refl

-- a conjunction with false
and_false : (p : Bool) → (p && false) ≡ false
and_false true = refl
and_false false = refl

-- both of two are true
and_both : (p q : Bool) → (p && q) ≡ true → (p ≡ true) × (q ≡ true)
and_both true q e = (refl, e)
and_both false q e = absurd (true≢false (sym e))

-- one of two is true
or_true : (p q : Bool) → (p || q) ≡ true → (p ≡ true) ⊎ (q ≡ true)
or_true true q e = inl refl
or_true false q e = inr e

-- none of two is true
or_false : (p q : Bool) → (p || q) ≡ false → (p ≡ false) × (q ≡ false)
or_false true q e = absurd (true≢false e)
or_false false q e = (refl, e)

-- the shift by the first digits is the whole shift where it is a shift of 0 or by no more
whole_is : (k n : ℕ) (z w : ℤ) → (n < 2 ^ k → w ≡ z *ℤ pos (2 ^ n)) → (z ≡ pos 0 → w ≡ pos 0) → (int_eq z (pos 0) || nat_lt n (2 ^ k)) ≡ true → w ≡ z *ℤ pos (2 ^ n)
whole_is k n z w whole none e = elim (or_true (int_eq z (pos 0)) (nat_lt n (2 ^ k)) e) [ inl f ↦ let zero_is = (Decides-int_eq z (pos 0)).0 f in none zero_is ∙ sym (none_raised n z (z *ℤ pos (2 ^ n)) refl zero_is) | inr f ↦ whole (ltb-true n (2 ^ k) f) ]

-- a shift by more that is not of 0 is too wide
far_is : (m k n : ℕ) (z : ℤ) → (n < 2 ^ k) ⊎ (m < 2 ^ k) → (int_eq z (pos 0) || nat_lt n (2 ^ k)) ≡ false → is_within (2 ^ m) (z *ℤ pos (2 ^ n)) ≡ false
far_is m k n z far e =
    let neither = or_false (int_eq z (pos 0)) (nat_lt n (2 ^ k)) e in
    let above = ltb-false n (2 ^ k) neither.1 in
    elim far [ inl h ↦ absurd (omega arith) | inr h ↦ too_wide m n z (omega arith) neither.0 ]

-- whether the shift fits, in two steps
fits_step : (m k n : ℕ) (z w : ℤ) (t : Bool) → (n < 2 ^ k) ⊎ (m < 2 ^ k) → (n < 2 ^ k → w ≡ z *ℤ pos (2 ^ n)) → (z ≡ pos 0 → w ≡ pos 0) → (int_eq z (pos 0) || nat_lt n (2 ^ k)) ≡ t → (is_within (2 ^ m) w && t) ≡ is_within (2 ^ m) (z *ℤ pos (2 ^ n))
fits_step m k n z w true far whole none e = and_true (is_within (2 ^ m) w) ∙ ap (is_within (2 ^ m)) (whole_is k n z w whole none e)
fits_step m k n z w false far whole none e = and_false (is_within (2 ^ m) w) ∙ sym (far_is m k n z far e)

-- whether the shift fits
pub shift_fits : (m k n : ℕ) (z w : ℤ) → (n < 2 ^ k) ⊎ (m < 2 ^ k) → (n < 2 ^ k → w ≡ z *ℤ pos (2 ^ n)) → (z ≡ pos 0 → w ≡ pos 0) → (is_within (2 ^ m) w && (int_eq z (pos 0) || nat_lt n (2 ^ k))) ≡ is_within (2 ^ m) (z *ℤ pos (2 ^ n))
shift_fits m k n z w far whole none = fits_step m k n z w (int_eq z (pos 0) || nat_lt n (2 ^ k)) far whole none refl

-- what the shift is where it fits
pub shift_is : (m k n : ℕ) (z w : ℤ) → (n < 2 ^ k → w ≡ z *ℤ pos (2 ^ n)) → (z ≡ pos 0 → w ≡ pos 0) → (is_within (2 ^ m) w && (int_eq z (pos 0) || nat_lt n (2 ^ k))) ≡ true → (is_within (2 ^ m) w ≡ true) × (w ≡ z *ℤ pos (2 ^ n))
shift_is m k n z w whole none e =
    let both = and_both (is_within (2 ^ m) w) (int_eq z (pos 0) || nat_lt n (2 ^ k)) e in
    (both.0, whole_is k n z w whole none both.1)

-- the number of places has as many digits, or the limit is reached
pub far_or_short : (m k n : ℕ) (bs : List Bool) → integer bs ≡ pos n → 1 ≤ length bs → k ≡ min 7 (length bs - 1) → m < 2 ^ 7 → (n < 2 ^ k) ⊎ (m < 2 ^ k)
far_or_short m k n bs e h is s = elim (cases_lt 7 (length bs)) [ inl f ↦ let seven : 7 ≡ k = omega arith in inr (subst (λ (i : ℕ). m < 2 ^ i) seven s) | inr f ↦ inl (own_number k n bs e h (omega arith)) ]
