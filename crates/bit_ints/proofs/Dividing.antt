-- Quotients that are rounded down, one digit a step.
use Rattle.std.proofs.Common.{◌≡◌, ℕ, zero, suc, ◌^◌, ◌≤◌, min, Bool, true, false, not, List, [], ◌∷◌, length, take, drop, ℤ, pos, negsuc, neg_ℤ, ◌+ℤ◌, ◌*ℤ◌, ◌-ℤ◌, ◌<ℤ◌, ◌≤ℤ◌, int_lt, if◌then◌else◌, inl, inr, refl, sym, ◌∙◌, ap, arith}
use Rattle.std.proofs.Math.IntN.{one, *ℤ-one, *ℤ-zero, *ℤ_comm, pos-*ℤ-pos}
use Rattle.std.proofs.Math.Nat.{mul-suc}
use Rattle.std.proofs.lemmas.Bool.{cases_lt}
use Rattle.std.proofs.lemmas.Int.{ints, by_lt_z}
use Rattle.bit_ints.specs.Dividing.{IsNaturalBelow, IsRemainder, AreFloored}
use Rattle.bit_ints.specs.Integers.{integer, is_within, xor}
use Rattle.bit_ints.proofs.Equals.{within_from, within_to}
use Rattle.bit_ints.proofs.Narrowing.{narrow}
use Rattle.bit_ints.proofs.Rows.{masked, times-sum, times-cons}
use Rattle.bit_ints.proofs.Sums.{digit}

-- what the test of less says
less_is : (x y : ℤ) → int_lt x y ≡ true → x <ℤ y
less_is x y e = grind (arith, ints)

-- what it says where it fails
not_less_is : (x y : ℤ) → int_lt x y ≡ false → y ≤ℤ x
not_less_is x y e = grind (arith, ints)

-- what remains after a step: twice what remained and the next digit, less the divisor where that is no more
abbrev pub stepped : Bool → ℤ → ℤ → ℤ
stepped less double d = if less then double else double -ℤ d

-- what remains is below the divisor again
pub stepped_below : (t : Bool) (l : Bool) (d r double : ℤ) → t ≡ int_lt (double -ℤ d) (pos 0) → double ≡ digit l +ℤ pos 2 *ℤ r → IsNaturalBelow d r → IsNaturalBelow d (stepped t double d) × (stepped t double d ≤ℤ double)
stepped_below true true d r double e f b = let h = less_is (double -ℤ d) (pos 0) (sym e) in ((omega (arith, ints, b.0), omega (arith, ints)), omega (arith, ints))
stepped_below true false d r double e f b = let h = less_is (double -ℤ d) (pos 0) (sym e) in ((omega (arith, ints, b.0), omega (arith, ints)), omega (arith, ints))
stepped_below false true d r double e f b = let h = not_less_is (double -ℤ d) (pos 0) (sym e) in ((omega (arith, ints), omega (arith, ints, b.1)), omega (arith, ints, b.0, b.1))
stepped_below false false d r double e f b = let h = not_less_is (double -ℤ d) (pos 0) (sym e) in ((omega (arith, ints), omega (arith, ints, b.1)), omega (arith, ints, b.0, b.1))

-- what is below d and not above another is within the bounds of both
pub within_both : (m n k : ℕ) (d double z : ℤ) → k ≡ min m n → is_within (2 ^ m) double ≡ true → is_within (2 ^ n) d ≡ true → IsNaturalBelow d z → z ≤ℤ double → is_within (2 ^ k) z ≡ true
within_both m n k d double z is e f b h =
    let w = within_from (2 ^ m) double e in
    let v = within_from (2 ^ n) d f in
    elim (cases_lt m n) [ inl s ↦ let same : m ≡ k = omega arith in ap (λ i. is_within (2 ^ i) z) (sym same) ∙ within_to (2 ^ m) z (record { low = omega (arith, ints, b.0); high = omega (arith, ints, w.high) }) | inr s ↦ let same : n ≡ k = omega arith in ap (λ i. is_within (2 ^ i) z) (sym same) ∙ within_to (2 ^ n) z (record { low = omega (arith, ints, b.0); high = omega (arith, ints, b.1, v.high) }) ]

-- the integer of the first digits of one of two lists
pub stepped_is : (t : Bool) (k n : ℕ) (xs ys zs : List Bool) (double d : ℤ) → n ≡ suc k → zs ≡ (if t then take n xs else take n ys) → integer xs ≡ double → integer ys ≡ double -ℤ d → 1 ≤ length xs → 1 ≤ length ys → is_within (2 ^ k) (stepped t double d) ≡ true → integer zs ≡ stepped t double d
stepped_is true k n xs ys zs double d e is x y h h' within = ap integer is ∙ ap (λ i. integer (take i xs)) e ∙ narrow k xs h (ap (is_within (2 ^ k)) x ∙ within) ∙ x
stepped_is false k n xs ys zs double d e is x y h h' within = ap integer is ∙ ap (λ i. integer (take i ys)) e ∙ narrow k ys h' (ap (is_within (2 ^ k)) y ∙ within) ∙ y

-- what remains and the divisor where it was taken away
pub stepped_back : (t q : Bool) (z double d : ℤ) → q ≡ not t → z ≡ stepped t double d → z +ℤ masked q d ≡ double
stepped_back true true z double d e f = absurd (cc)
stepped_back true false z double d e f = omega (arith, ints)
stepped_back false true z double d e f = omega (arith, ints)
stepped_back false false z double d e f = absurd (cc)

-- sums of the parts of a step
step_parts : (bq row t t' l r r' whole : ℤ) → t ≡ bq +ℤ r → t' ≡ l +ℤ pos 2 *ℤ t → r' +ℤ row ≡ l +ℤ pos 2 *ℤ r → whole ≡ row +ℤ pos 2 *ℤ bq → t' ≡ whole +ℤ r'
step_parts bq row t t' l r r' whole e f g h = omega (arith, ints)

-- one digit more of a quotient
pub quotient_step : (q l : Bool) (b quotient quotient' r r' t t' : ℤ) → t ≡ b *ℤ quotient +ℤ r → t' ≡ digit l +ℤ pos 2 *ℤ t → r' +ℤ masked q b ≡ digit l +ℤ pos 2 *ℤ r → quotient' ≡ digit q +ℤ pos 2 *ℤ quotient → t' ≡ b *ℤ quotient' +ℤ r'
quotient_step q l b quotient quotient' r r' t t' e f g h =
    step_parts (b *ℤ quotient) (masked q b) t t' (digit l) r r' (b *ℤ quotient') e f g (ap (λ z. b *ℤ z) h ∙ times-cons q b quotient)

-- the sign of an integer that is not negative
pub top_is : (k : ℕ) (bs : List Bool) → length bs ≡ suc k → pos 0 ≤ℤ integer bs → integer (drop k bs) ≡ pos 0
top_is k [] h p = absurd (omega arith)
top_is zero (true ∷ []) h p = absurd (omega (arith, ints))
top_is zero (false ∷ []) h p = refl
top_is (suc k) (b ∷ []) h p = absurd (omega arith)
top_is zero (b ∷ c ∷ bs) h p = absurd (omega arith)
top_is (suc k) (true ∷ c ∷ bs) h p = top_is k (c ∷ bs) (omega arith) (omega (arith, ints))
top_is (suc k) (false ∷ c ∷ bs) h p = top_is k (c ∷ bs) (omega arith) (omega (arith, ints))

-- a product with -1 less an integer
times-flip : (x y : ℤ) → x *ℤ (negsuc 0 -ℤ y) ≡ neg_ℤ (x *ℤ y) -ℤ x
unfolding one
times-flip x y =
    let none : (negsuc 0 -ℤ y) +ℤ (y +ℤ pos 1) ≡ pos 0 = omega (arith, ints) in
    let all = sym (times-sum x (negsuc 0 -ℤ y) (y +ℤ pos 1)) ∙ ap (λ z. x *ℤ z) none ∙ *ℤ-zero x in
    let more = times-sum x y (pos 1) in
    let same = *ℤ-one x in
    omega (arith, ints, all, more, same)

-- a product with a negated first factor
times-neg : (x y : ℤ) → neg_ℤ x *ℤ y ≡ neg_ℤ (x *ℤ y)
times-neg x y =
    let none : neg_ℤ x +ℤ x ≡ pos 0 = omega (arith, ints) in
    let all = sym (times-sum y (neg_ℤ x) x) ∙ ap (λ z. y *ℤ z) none ∙ *ℤ-zero y in
    let left = *ℤ_comm (neg_ℤ x) y in
    let right = *ℤ_comm x y in
    omega (arith, ints, all, left, right)

-- the remainder with its signs
abbrev pub signed_sum : Bool → Bool → ℤ → ℤ → ℤ
signed_sum s n x y = (if xor s n then negsuc 0 -ℤ x else x) +ℤ (if s then y else pos 0) +ℤ (if n then pos 1 else pos 0)

-- the divisor is positive without its sign
pub divisor_positive : (n : Bool) (b d : ℤ) → n ≡ int_lt b (pos 0) → ¬ (b ≡ pos 0) → d ≡ (if n then neg_ℤ b else b) → pos 0 <ℤ d
divisor_positive true b d e h f = let s = less_is b (pos 0) (sym e) in omega (arith, ints)
divisor_positive false (pos zero) d e h f = absurd (h refl)
divisor_positive false (pos (suc x)) d e h f = omega (arith, ints)
divisor_positive false (negsuc x) d e h f = let s = not_less_is (negsuc x) (pos 0) (sym e) in absurd (omega (arith, ints))

-- the dividend is not negative once its digits are negated where it is
pub size_positive : (s : Bool) (a x : ℤ) → s ≡ int_lt a (pos 0) → x ≡ (if s then negsuc 0 -ℤ a else a) → pos 0 ≤ℤ x
size_positive true a x e f = let h = less_is a (pos 0) (sym e) in omega (arith, ints)
size_positive false a x e f = let h = not_less_is a (pos 0) (sym e) in omega (arith, ints)

-- the quotient and the remainder with their signs
pub floored : (n s : Bool) (a b a' d x q r q' : ℤ) → a' ≡ (if n then neg_ℤ a else a) → d ≡ (if n then neg_ℤ b else b) → x ≡ (if s then negsuc 0 -ℤ a' else a') → q' ≡ (if s then negsuc 0 -ℤ q else q) → x ≡ d *ℤ q +ℤ r → IsNaturalBelow d r → AreFloored a b q' (signed_sum s n r b)
floored false false a b a' d x q r q' ea ed ex eq e h =
    let product : b *ℤ q' ≡ d *ℤ q = ap (λ z. b *ℤ z) eq ∙ ap (λ z. z *ℤ q) (sym ed) in
    (omega (arith, ints, e, product, ea, ed, ex), inl (omega (arith, ints, h.0), omega (arith, ints, h.1, ed)))
floored false true a b a' d x q r q' ea ed ex eq e h =
    let product : b *ℤ q' ≡ neg_ℤ (b *ℤ q) -ℤ b = ap (λ z. b *ℤ z) eq ∙ times-flip b q in
    let same : d *ℤ q ≡ b *ℤ q = ap (λ z. z *ℤ q) ed in
    (omega (arith, ints, e, product, same, ea, ed, ex), inl (omega (arith, ints, h.0, h.1, ed), omega (arith, ints, h.0, h.1, ed)))
floored true false a b a' d x q r q' ea ed ex eq e h =
    let product : b *ℤ q' ≡ b *ℤ q = ap (λ z. b *ℤ z) eq in
    let same : d *ℤ q ≡ neg_ℤ (b *ℤ q) = ap (λ z. z *ℤ q) ed ∙ times-neg b q in
    (omega (arith, ints, e, product, same, ea, ed, ex), inr (omega (arith, ints, h.0, h.1, ed), omega (arith, ints, h.0, h.1, ed)))
floored true true a b a' d x q r q' ea ed ex eq e h =
    let product : b *ℤ q' ≡ neg_ℤ (b *ℤ q) -ℤ b = ap (λ z. b *ℤ z) eq ∙ times-flip b q in
    let same : d *ℤ q ≡ neg_ℤ (b *ℤ q) = ap (λ z. z *ℤ q) ed ∙ times-neg b q in
    (omega (arith, ints, e, product, same, ea, ed, ex), inr (omega (arith, ints, h.0, h.1, ed), omega (arith, ints, h.0, h.1, ed)))

-- a remainder is within the bounds of the divisor
pub remainder_within : (m : ℕ) (b r : ℤ) → is_within m b ≡ true → IsRemainder b r → is_within m r ≡ true
remainder_within m b r e h =
    let w = within_from m b e in
    elim h [ inl k ↦ within_to m r (record { low = omega (arith, ints, k.0, k.1, w.low, w.high); high = omega (arith, ints, k.0, k.1, w.low, w.high) }) | inr k ↦ within_to m r (record { low = omega (arith, ints, k.0, k.1, w.low, w.high); high = omega (arith, ints, k.0, k.1, w.low, w.high) }) ]

-- how far an integer is above another
above : (d x y : ℤ) → d ≡ y -ℤ x → x <ℤ y → (k : ℕ) × (y ≡ x +ℤ pos (suc k))
above (pos zero) x y e h = absurd (omega (arith, ints))
above (pos (suc k)) x y e h = (k, omega (arith, ints))
above (negsuc k) x y e h = absurd (omega (arith, ints))

-- a multiple of what is positive is no less
far : (b : ℤ) (k : ℕ) → pos 0 <ℤ b → b ≤ℤ (b *ℤ pos (suc k))
far (pos m) k h = let e = pos-*ℤ-pos m (suc k) in let more = mul-suc m k in omega (arith, ints)
far (negsuc m) k h = absurd (omega (arith, ints))

-- no quotient by what is positive is larger than another
no_larger : (a b q r p s : ℤ) → a ≡ b *ℤ q +ℤ r → a ≡ b *ℤ p +ℤ s → IsNaturalBelow b r → IsNaturalBelow b s → ¬ (q <ℤ p)
no_larger a b q r p s e f h k less =
    let more = above (p -ℤ q) q p refl less in
    let product = ap (λ z. b *ℤ z) more.1 ∙ times-sum b q (pos (suc more.0)) in
    let positive : pos 0 <ℤ b = omega (arith, ints, h.0, h.1) in
    let least = far b more.0 positive in
    omega (arith, ints, e, f, product, least, h.1, k.0)

-- one quotient by what is positive
one_positive : (a b q r p s : ℤ) → a ≡ b *ℤ q +ℤ r → a ≡ b *ℤ p +ℤ s → IsNaturalBelow b r → IsNaturalBelow b s → q ≡ p
one_positive a b q r p s e f h k =
    by_lt_z q p (λ l. absurd (no_larger a b q r p s e f h k l)) (λ l. by_lt_z p q (λ m. absurd (no_larger a b p s q r f e k h m)) (λ m. omega (arith, ints, l, m)))

-- the division with the divisor's sign turned
turned : (a b q r : ℤ) → a ≡ b *ℤ q +ℤ r → neg_ℤ a ≡ neg_ℤ b *ℤ q +ℤ neg_ℤ r
turned a b q r e = let product = times-neg b q in omega (arith, ints, e, product)

-- one quotient
pub one_quotient : (a b q r p s : ℤ) → AreFloored a b q r → AreFloored a b p s → q ≡ p
one_quotient a b q r p s f g =
    elim f.1 [ inl h ↦ elim g.1 [ inl k ↦ one_positive a b q r p s f.0 g.0 h k | inr k ↦ absurd (omega (arith, ints, h.0, h.1, k.0, k.1)) ] | inr h ↦ elim g.1 [ inl k ↦ absurd (omega (arith, ints, h.0, h.1, k.0, k.1)) | inr k ↦ one_positive (neg_ℤ a) (neg_ℤ b) q (neg_ℤ r) p (neg_ℤ s) (turned a b q r f.0) (turned a b p s g.0) (omega (arith, ints, h.1), omega (arith, ints, h.0)) (omega (arith, ints, k.1), omega (arith, ints, k.0)) ] ]

-- one remainder
pub one_remainder : (a b q r p s : ℤ) → AreFloored a b q r → AreFloored a b p s → r ≡ s
one_remainder a b q r p s f g =
    let same = ap (λ z. b *ℤ z) (one_quotient a b q r p s f g) in
    omega (arith, ints, same, f.0, g.0)
