-- Integers in two's complement that are within bounds, and fewer digits of them.
use Rattle.std.proofs.Common.{◌≡◌, ℕ, zero, suc, ◌*◌, ◌^◌, ◌<◌, ◌≤◌, min, Bool, true, false, List, [], ◌∷◌, length, take, drop, pos, ◌+ℤ◌, ◌*ℤ◌, inl, inr, refl, sym, ◌∙◌, ap, arith}
use Rattle.std.proofs.lemmas.Int.{ints}
use Rattle.std.proofs.lemmas.Bool.{cases_lt, ltb-true}
use Rattle.std.proofs.lemmas.List.{drop_all, take_all, length-take, length-map, take-map}
use Rattle.bit_gates.specs.declared.lit.Gate.{Gate}
use Rattle.bit_gates.specs.declared.lit.Lit.{Lit}
use Rattle.bit_gates.specs.Formulas.{Extends, value_of}
use Rattle.bit_ints.specs.Integers.{AreBelow, integer, integer_of, values, are_same, is_within}
use Rattle.bit_ints.proofs.Digits.{values_kept}
use Rattle.bit_ints.proofs.Equals.{within_from, within_step, fits-is}
use Rattle.bit_ints.proofs.Rows.{integer-cons}
use Rattle.bit_ints.proofs.Steps.{same_short}
use Rattle.bit_ints.proofs.Sums.{digit}

-- an integer is within the bounds of its digits
pub own_bounds : (k : ℕ) (bs : List Bool) → 1 ≤ length bs → length bs ≤ suc k → is_within (2 ^ k) (integer bs) ≡ true
own_bounds k bs h s =
    let none : drop (suc k) bs ≡ [] = drop_all (suc k) bs s in
    sym (fits-is k bs h) ∙ ap (are_same (drop k bs)) none ∙ same_short (drop k bs)

-- a number is below the power of two that its digits reach
pub own_number : (k n : ℕ) (bs : List Bool) → integer bs ≡ pos n → 1 ≤ length bs → length bs ≤ suc k → n < 2 ^ k
own_number k n bs e h s = ltb-true n (2 ^ k) (ap (is_within (2 ^ k)) (sym e) ∙ own_bounds k bs h s)

-- an integer of the lowest digit alone
narrow_one : (b c : Bool) (bs : List Bool) → is_within 1 (integer (b ∷ c ∷ bs)) ≡ true → integer (b ∷ []) ≡ integer (b ∷ c ∷ bs)
narrow_one true c bs e = let w = within_from 1 (integer (true ∷ c ∷ bs)) e in omega (arith, ints, w.low, w.high)
narrow_one false c bs e = let w = within_from 1 (integer (false ∷ c ∷ bs)) e in omega (arith, ints, w.low, w.high)

-- an integer within the bounds of fewer digits is that of fewer digits
pub narrow : (k : ℕ) (bs : List Bool) → 1 ≤ length bs → is_within (2 ^ k) (integer bs) ≡ true → integer (take (suc k) bs) ≡ integer bs
narrow k [] h e = absurd (omega arith)
narrow zero (b ∷ []) h e = refl
narrow zero (b ∷ c ∷ bs) h e = narrow_one b c bs e
narrow (suc k) (b ∷ []) h e = refl
narrow (suc k) (b ∷ c ∷ bs) h e =
    let double : 2 ^ suc k ≡ 2 * 2 ^ k = omega arith in
    let inner = narrow k (c ∷ bs) (omega arith) (within_step b (2 ^ k) (2 ^ suc k) (integer (c ∷ bs)) double ∙ e) in
    let size = length-take (suc k) (c ∷ bs) in
    integer-cons b (take (suc k) (c ∷ bs)) (omega arith) ∙ ap (λ z. digit b +ℤ pos 2 *ℤ z) inner

-- the same where there may be no more digits
pub narrow_to : (k n : ℕ) (bs : List Bool) → 1 ≤ length bs → n ≡ min (length bs) (suc k) → is_within (2 ^ k) (integer bs) ≡ true → integer (take n bs) ≡ integer bs
narrow_to k n bs h is e = elim (cases_lt k (length bs)) [ inl s ↦ let m : n ≡ suc k = omega arith in ap (λ i. integer (take i bs)) m ∙ narrow k bs h e | inr s ↦ ap integer (take_all n bs (omega arith)) ]

-- the same for literals of an arena that grows
pub narrowed-is : (old new : List Gate) (bits : List Bool) (k n : ℕ) (lits few : List Lit) → Extends old new → AreBelow (length old) lits → 1 ≤ length lits → few ≡ take n lits → n ≡ min (length lits) (suc k) → is_within (2 ^ k) (integer_of old bits lits) ≡ true → integer_of new bits few ≡ integer_of old bits lits
narrowed-is old new bits k n lits few e b h is size within =
    let same = length-map lits (value_of old bits) in
    ap (integer_of new bits) is ∙ ap integer (sym (take-map (value_of new bits) n lits)) ∙ ap (λ vs. integer (take n vs)) (values_kept old new bits lits e b) ∙ narrow_to k n (values old bits lits) (omega arith) (omega arith) within
