-- Integers in two's complement that are shifted to the right.
use Rattle.std.proofs.Common.{◌≡◌, ℕ, zero, suc, ◌+◌, ◌-◌, ◌*◌, ◌/◌, ◌^◌, ◌<◌, ◌≤◌, min, nat_lt, Bool, true, false, List, [], ◌∷◌, ◌++◌, length, drop, get_or, slice_get, Some, ℤ, pos, negsuc, ◌+ℤ◌, ◌*ℤ◌, if◌then◌else◌, refl, sym, ◌∙◌, ap, length-drop, arith}
use Rattle.std.proofs.lemmas.Int.{ints}
use Rattle.std.proofs.lemmas.List.{append-nil, length-map, drop-map, drop_all}
use Rattle.std.proofs.lemmas.Bool.{ltb-true, ltb-false}
use Rattle.std.proofs.lemmas.Nat.{pow-add}
use Rattle.bit_gates.specs.declared.lit.Gate.{Gate}
use Rattle.bit_gates.specs.declared.lit.Lit.{Lit}
use Rattle.bit_gates.specs.Formulas.{Extends, value_of}
use Rattle.bit_ints.specs.Integers.{AreBelow, integer, integer_of, values, extended_by, zip_with}
use Rattle.bit_ints.specs.Halving.{half, halved}
use Rattle.bit_ints.proofs.Digits.{extended-map}
use Rattle.bit_ints.proofs.Rows.{got_later}
use Rattle.bit_ints.proofs.Sums.{digit, integer-extended}

-- half of a digit and twice what follows
pub half-cons : (b : Bool) (z : ℤ) → half (digit b +ℤ pos 2 *ℤ z) ≡ z
half-cons true (pos n) = let e : digit true +ℤ pos 2 *ℤ pos n ≡ pos (2 * n + 1) = omega (arith, ints) in ap half e ∙ ap pos (omega arith)
half-cons false (pos n) = let e : digit false +ℤ pos 2 *ℤ pos n ≡ pos (2 * n) = omega (arith, ints) in ap half e ∙ ap pos (omega arith)
half-cons true (negsuc n) = let e : digit true +ℤ pos 2 *ℤ negsuc n ≡ negsuc (2 * n) = omega (arith, ints) in ap half e ∙ ap negsuc (omega arith)
half-cons false (negsuc n) = let e : digit false +ℤ pos 2 *ℤ negsuc n ≡ negsuc (2 * n + 1) = omega (arith, ints) in ap half e ∙ ap negsuc (omega arith)

-- so many halvings after so many
halved-add : (m n : ℕ) (z : ℤ) → halved (m + n) z ≡ halved m (halved n z)
halved-add m zero z = let e : m + 0 ≡ m = omega arith in ap (λ k. halved k z) e
halved-add m (suc n) z = let e : m + suc n ≡ suc (m + n) = omega arith in ap (λ k. halved k z) e ∙ halved-add m n (half z)

-- digits without the lowest ones
drop-halved : (k : ℕ) (bs : List Bool) → k < length bs → integer (drop k bs) ≡ halved k (integer bs)
drop-halved zero bs h = refl
drop-halved (suc k) [] h = absurd (omega arith)
drop-halved (suc k) (b ∷ []) h = absurd (omega arith)
drop-halved (suc k) (b ∷ c ∷ bs) h = drop-halved k (c ∷ bs) (omega arith) ∙ ap (halved k) (sym (half-cons b (integer (c ∷ bs))))

-- an integer of one digit is its own half
halved-one : (n : ℕ) (bs : List Bool) → length bs ≡ 1 → halved n (integer bs) ≡ integer bs
halved-one n [] h = absurd (omega arith)
halved-one zero (b ∷ []) h = refl
halved-one (suc n) (true ∷ []) h = halved-one n (true ∷ []) h
halved-one (suc n) (false ∷ []) h = halved-one n (false ∷ []) h
halved-one n (b ∷ c ∷ bs) h = absurd (omega arith)

-- halvings after those that leave one digit change nothing
halved_enough : (e m p k : ℕ) (bs : List Bool) → e + p ≡ m → p ≡ min k m → length bs ≡ suc k → halved m (integer bs) ≡ halved p (integer bs)
halved_enough zero m p k bs s is h = let e : m ≡ p = omega arith in ap (λ n. halved n (integer bs)) e
halved_enough (suc e) m p k bs s is h =
    let size = length-drop p bs in
    let left = drop-halved p bs (omega arith) in
    ap (λ n. halved n (integer bs)) (sym s) ∙ halved-add (suc e) p (integer bs) ∙ ap (halved (suc e)) (sym left) ∙ halved-one (suc e) (drop p bs) (omega arith) ∙ left

-- what follows the lowest digit of a number
pub half_left : (b : Bool) (z : ℤ) (n : ℕ) → digit b +ℤ pos 2 *ℤ z ≡ pos n → z ≡ pos (n / 2)
half_left b z n e = sym (half-cons b z) ∙ ap half e

-- the number of the first k digits
abbrev pub low : ℕ → List Bool → ℕ
low zero bs = 0
low (suc k) [] = 0
low (suc k) (b ∷ bs) = (if b then 1 else 0) + (low k bs + low k bs)

-- twice a number with one digit more
low_step : (t : Bool) (d x y p q : ℕ) → q ≡ p + p → y ≡ x + (if t then p else 0) → d + (y + y) ≡ d + (x + x) + (if t then q else 0)
low_step true d x y p q e f = omega arith
low_step false d x y p q e f = omega arith

-- the lowest digit as a number
low_one : (b : Bool) → (if b then 1 else 0) + (0 + 0) ≡ 0 + (if b then 2 ^ 0 else 0)
low_one true = refl
low_one false = refl

-- one digit more
pub low-next : (i : ℕ) (bs : List Bool) → i < length bs → low (suc i) bs ≡ low i bs + (if get_or bs i false then 2 ^ i else 0)
low-next i [] h = absurd (omega arith)
low-next zero (b ∷ bs) h = low_one b
low-next (suc i) (b ∷ bs) h = low_step (get_or bs i false) (if b then 1 else 0) (low i bs) (low (suc i) bs) (2 ^ i) (2 ^ suc i) (omega arith) (low-next i bs (omega arith))

-- a number of few digits is that of its first digits
pub low-is : (k : ℕ) (bs : List Bool) (n : ℕ) → k < length bs → integer bs ≡ pos n → n < 2 ^ k → low k bs ≡ n
low-is zero bs n h e s = omega arith
low-is (suc k) [] n h e s = absurd (omega arith)
low-is (suc k) (b ∷ []) n h e s = absurd (omega arith)
low-is (suc k) (true ∷ c ∷ bs) n h e s =
    let rest = half_left true (integer (c ∷ bs)) n e in
    omega (arith, ints, e, rest, low-is k (c ∷ bs) (n / 2) (omega arith) rest (omega arith))
low-is (suc k) (false ∷ c ∷ bs) n h e s =
    let rest = half_left false (integer (c ∷ bs)) n e in
    omega (arith, ints, e, rest, low-is k (c ∷ bs) (n / 2) (omega arith) rest (omega arith))

-- literals without the lowest, with their sign repeated
pub integer-shifted : (gates : List Gate) (bits : List Bool) (lits moved : List Lit) (p : ℕ) → p < length lits → moved ≡ extended_by p (drop p lits) → integer_of gates bits moved ≡ halved p (integer_of gates bits lits)
integer-shifted gates bits lits moved p h is =
    let size = length-map lits (value_of gates bits) in
    ap (integer_of gates bits) is ∙ ap integer (extended-map (value_of gates bits) p (drop p lits)) ∙ integer-extended p (values gates bits (drop p lits)) ∙ ap integer (sym (drop-map (value_of gates bits) p lits)) ∙ drop-halved p (values gates bits lits) (omega arith)

-- one of two digits
abbrev pub either : Bool → Bool → Bool → Bool
either s x y = if s then x else y

-- one of two lists, digit by digit
pub zip-either : (s : Bool) (xs ys : List Bool) → length xs ≡ length ys → zip_with (either s) xs ys ≡ (if s then xs else ys)
zip-either true [] ys h = refl
zip-either false [] [] h = refl
zip-either false [] (y ∷ ys) h = absurd (omega arith)
zip-either s (x ∷ xs) [] h = absurd (omega arith)
zip-either true (x ∷ xs) (y ∷ ys) h = ap (λ zs. x ∷ zs) (zip-either true xs ys (omega arith))
zip-either false (x ∷ xs) (y ∷ ys) h = ap (λ zs. y ∷ zs) (zip-either false xs ys (omega arith))

-- the integer of one of two lists
pub integer-either : (s : Bool) (xs ys zs : List Bool) (w : ℤ) → zs ≡ (if s then xs else ys) → integer xs ≡ w → integer zs ≡ (if s then w else integer ys)
integer-either true xs ys zs w e f = ap integer e ∙ f
integer-either false xs ys zs w e f = ap integer e

-- the end of one of two lists, digit by digit
pub zip_end : (f : Bool → Bool → Bool) (xs ys vs zs : List Bool) (i : ℕ) → length xs ≤ i → vs ++ zip_with f (drop i xs) (drop i ys) ≡ zs → vs ≡ zs
zip_end f xs ys vs zs i h e =
    sym (append-nil vs) ∙ ap (λ ds. vs ++ zip_with f ds (drop i ys)) (sym (drop_all i xs h)) ∙ e

-- the next power of two
pub next_power : (i : ℕ) → 2 ^ (i + 1) ≡ 2 ^ i + 2 ^ i
next_power i = omega (arith, pow-add 2 i 1)

-- the next number of places
pub next_places : (k p q i : ℕ) → p ≡ min k (2 ^ i) → q ≡ min k (p * 2) → q ≡ min k (2 ^ (i + 1))
next_places k p q i is e = let next = next_power i in omega arith

-- a shift by one digit of the number of places
lower_step : (t : Bool) (bs : List Bool) (z w : ℤ) (m p i k : ℕ) → length bs ≡ suc k → p ≡ min k (2 ^ i) → integer bs ≡ halved m z → w ≡ (if t then halved p (integer bs) else integer bs) → w ≡ halved (m + (if t then 2 ^ i else 0)) z
lower_step true bs z w m p i k size is e f =
    let extra : (2 ^ i - p) + p ≡ 2 ^ i = omega arith in
    let order : 2 ^ i + m ≡ m + 2 ^ i = omega arith in
    f ∙ sym (halved_enough (2 ^ i - p) (2 ^ i) p k bs extra is size) ∙ ap (halved (2 ^ i)) e ∙ sym (halved-add (2 ^ i) m z) ∙ ap (λ n. halved n z) order
lower_step false bs z w m p i k size is e f = let none : m ≡ m + 0 = omega arith in f ∙ e ∙ ap (λ n. halved n z) none

-- one literal of the number of places
pub lower_turn : (g0 g1 g2 : List Gate) (bits : List Bool) (b digits moved : List Lit) (i p k : ℕ) (by : Lit) (z : ℤ) → Extends g0 g1 → AreBelow (length g0) b → i < length b → slice_get b i ≡ Some by → length digits ≡ suc k → p ≡ min k (2 ^ i) → integer_of g2 bits moved ≡ (if value_of g1 bits by then halved p (integer_of g1 bits digits) else integer_of g1 bits digits) → integer_of g1 bits digits ≡ halved (low i (values g0 bits b)) z → integer_of g2 bits moved ≡ halved (low (i + 1) (values g0 bits b)) z
lower_turn g0 g1 g2 bits b digits moved i p k by z e bb h is size places v inv =
    let size_digits = length-map digits (value_of g1 bits) in
    let size_b = length-map b (value_of g0 bits) in
    let t = get_or (values g0 bits b) i false in
    let m = low i (values g0 bits b) in
    let next : i + 1 ≡ suc i = omega arith in
    let more : low (i + 1) (values g0 bits b) ≡ m + (if t then 2 ^ i else 0) = ap (λ k. low k (values g0 bits b)) next ∙ low-next i (values g0 bits b) (omega arith) in
    let step : integer_of g2 bits moved ≡ (if t then halved p (integer_of g1 bits digits) else integer_of g1 bits digits) =
    v ∙ ap (λ s. if s then halved p (integer_of g1 bits digits) else integer_of g1 bits digits) (got_later g0 g1 bits b i by e bb is) in
    lower_step t (values g1 bits digits) z (integer_of g2 bits moved) m p i k (omega arith) places inv step ∙ ap (λ n. halved n z) (sym more)

-- the whole number of places
pub lower_end : (bs : List Bool) (k n : ℕ) (z w : ℤ) → k < length bs → integer bs ≡ pos n → n < 2 ^ k → w ≡ halved (low k bs) z → w ≡ halved n z
lower_end bs k n z w h e s is = is ∙ ap (λ m. halved m z) (low-is k bs n h e s)

-- a shift by few places, or one that leaves the sign alone
pub near_or_far : (t : Bool) (bs : List Bool) (k last n : ℕ) (near far z : ℤ) → length bs ≡ suc last → last ≤ 2 ^ k → t ≡ nat_lt n (2 ^ k) → (n < 2 ^ k → near ≡ halved n (integer bs)) → far ≡ halved last (integer bs) → z ≡ (if t then near else far) → z ≡ halved n (integer bs)
near_or_far true bs k last n near far z size enough t close wide is = is ∙ close (ltb-true n (2 ^ k) (sym t))
near_or_far false bs k last n near far z size enough t close wide is =
    let above = ltb-false n (2 ^ k) (sym t) in
    let extra : (n - last) + last ≡ n = omega arith in
    is ∙ wide ∙ sym (halved_enough (n - last) n last last bs extra (omega arith) size)
