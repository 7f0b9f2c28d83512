-- Products of integers in two's complement, row by row.
use Rattle.std.proofs.Common.{◌≡◌, ℕ, zero, suc, ◌+◌, ◌-◌, ◌<◌, ◌≤◌, Bool, true, false, ◌&&◌, List, [], ◌∷◌, ◌++◌, length, drop, get_or, slice_get, Some, None, ℤ, pos, negsuc, ◌+ℤ◌, ◌*ℤ◌, ◌-ℤ◌, if◌then◌else◌, refl, sym, ◌∙◌, ap, length-drop, arith}
use Rattle.std.proofs.Math.IntN.{one, *ℤ-one, *ℤ-zero, zero-*ℤ, *ℤ-negsuc, suc_ℤ-*ℤ, pred_ℤ-*ℤ}
use Rattle.std.proofs.lemmas.Int.{ints}
use Rattle.std.proofs.lemmas.List.{length-map, map-append, drop_all}
use Rattle.bit_gates.specs.declared.lit.Gate.{Gate}
use Rattle.bit_gates.specs.declared.lit.Lit.{Lit}
use Rattle.bit_gates.specs.Formulas.{Extends, value_of}
use Rattle.bit_gates.proofs.Arenas.{value_kept}
use Rattle.bit_ints.specs.Integers.{AreBelow, integer, integer_of, values, with_sign_again, extended_by, zip_with, bitwise}
use Rattle.bit_ints.proofs.Digits.{values_kept, extended-length, grown_more}
use Rattle.bit_ints.proofs.Orders.{below_get}
use Rattle.bit_ints.proofs.Steps.{values_push, left_more}
use Rattle.bit_ints.proofs.Sums.{digit, onto, onto-push}

-- what a first factor that is one more does to each part of a sum
one_more : (s p q a b whole left right : ℤ) → whole ≡ s +ℤ (a +ℤ b) → left ≡ p +ℤ a → right ≡ q +ℤ b → s ≡ p +ℤ q → whole ≡ left +ℤ right
one_more s p q a b whole left right e f g h = omega (arith, ints)

-- the same for one less
one_less : (s p q a b whole left right : ℤ) → whole ≡ s -ℤ (a +ℤ b) → left ≡ p -ℤ a → right ≡ q -ℤ b → s ≡ p +ℤ q → whole ≡ left +ℤ right
one_less s p q a b whole left right e f g h = omega (arith, ints)

-- no sum
none : (whole left right : ℤ) → whole ≡ pos 0 → left ≡ pos 0 → right ≡ pos 0 → whole ≡ left +ℤ right
none whole left right e f g = omega (arith, ints)

-- a product with a sum
pub times-sum : (x a b : ℤ) → x *ℤ (a +ℤ b) ≡ x *ℤ a +ℤ x *ℤ b
times-sum (pos zero) a b = none _ _ _ (zero-*ℤ (a +ℤ b)) (zero-*ℤ a) (zero-*ℤ b)
times-sum (pos (suc n)) a b = one_more _ _ _ a b _ _ _ (suc_ℤ-*ℤ (pos n) (a +ℤ b)) (suc_ℤ-*ℤ (pos n) a) (suc_ℤ-*ℤ (pos n) b) (times-sum (pos n) a b)
times-sum (negsuc zero) a b = one_less _ _ _ a b _ _ _ (pred_ℤ-*ℤ (pos 0) (a +ℤ b)) (pred_ℤ-*ℤ (pos 0) a) (pred_ℤ-*ℤ (pos 0) b) (none _ _ _ (zero-*ℤ (a +ℤ b)) (zero-*ℤ a) (zero-*ℤ b))
times-sum (negsuc (suc n)) a b = one_less _ _ _ a b _ _ _ (pred_ℤ-*ℤ (negsuc n) (a +ℤ b)) (pred_ℤ-*ℤ (negsuc n) a) (pred_ℤ-*ℤ (negsuc n) b) (times-sum (negsuc n) a b)

-- an integer where the digit is true, and else 0
abbrev pub masked : Bool → ℤ → ℤ
masked b x = if b then x else pos 0

-- a product with a digit
times-digit : (b : Bool) (x : ℤ) → x *ℤ digit b ≡ masked b x
unfolding one
times-digit true x = *ℤ-one x
times-digit false x = *ℤ-zero x

-- twice an integer
pub twice : (y : ℤ) → pos 2 *ℤ y ≡ y +ℤ y
twice y = omega (arith, ints)

-- sums of the parts of a product
parts : (whole first second row product : ℤ) → whole ≡ first +ℤ second → first ≡ row → second ≡ product +ℤ product → whole ≡ row +ℤ pos 2 *ℤ product
parts whole first second row product e f g = omega (arith, ints)

-- a product with a digit and twice what follows
pub times-cons : (b : Bool) (x y : ℤ) → x *ℤ (digit b +ℤ pos 2 *ℤ y) ≡ masked b x +ℤ pos 2 *ℤ (x *ℤ y)
times-cons b x y = parts _ _ _ (masked b x) (x *ℤ y) (times-sum x (digit b) (pos 2 *ℤ y)) (times-digit b x) (ap (λ z. x *ℤ z) (twice y) ∙ times-sum x y y)

-- a row moves from what is left to what is added up
moved : (low more rest row product whole : ℤ) → low +ℤ pos 2 *ℤ more ≡ rest +ℤ row → whole ≡ row +ℤ pos 2 *ℤ product → low +ℤ pos 2 *ℤ (more +ℤ product) ≡ rest +ℤ whole
moved low more rest row product whole e f = omega (arith, ints)

-- the row of the sign
sign_row : (s : Bool) (x rest : ℤ) → rest -ℤ masked s x ≡ rest +ℤ x *ℤ integer (s ∷ [])
unfolding one
sign_row true x rest = ap (λ z. rest -ℤ z) (sym (*ℤ-one x)) ∙ ap (λ z. rest +ℤ z) (sym (*ℤ-negsuc x 0))
sign_row false x rest = let e = *ℤ-zero x in rw e (omega (arith, ints))

-- a digit in front of others
pub integer-cons : (b : Bool) (bs : List Bool) → 1 ≤ length bs → integer (b ∷ bs) ≡ digit b +ℤ pos 2 *ℤ integer bs
integer-cons b [] h = absurd (omega arith)
integer-cons b (c ∷ bs) h = refl

-- digits behind lower digits
integer-high : (bs cs : List Bool) → 1 ≤ length cs → integer (bs ++ cs) ≡ onto bs (integer cs)
integer-high [] cs h = refl
integer-high (b ∷ []) cs h = integer-cons b cs h
integer-high (b ∷ c ∷ bs) cs h = ap (λ z. digit b +ℤ pos 2 *ℤ z) (integer-high (c ∷ bs) cs h)

-- the sign once more, behind a first digit
again_cons : (s : Bool) (xs : List Bool) → 1 ≤ length xs → with_sign_again (s ∷ xs) ≡ s ∷ with_sign_again xs
again_cons s [] h = absurd (omega arith)
again_cons s (x ∷ xs) h = refl

-- a single digit n times more
pub more_signs : (k : ℕ) (s : Bool) → extended_by (suc k) (s ∷ []) ≡ s ∷ extended_by k (s ∷ [])
more_signs zero s = refl
more_signs (suc k) s =
    let size = extended-length k (s ∷ []) (omega arith) in
    ap with_sign_again (more_signs k s) ∙ again_cons s (extended_by k (s ∷ [])) (omega arith)

-- an operation on digits that are there has a digit
zip_some : (f : Bool → Bool → Bool) (x : Bool) (xs ys : List Bool) → 1 ≤ length ys → 1 ≤ length (zip_with f (x ∷ xs) ys)
zip_some f x xs [] h = absurd (omega arith)
zip_some f x xs (y ∷ ys) h = omega arith

-- one masked digit, with what follows
mask_step : (x s : Bool) (z w : ℤ) → w ≡ masked s z → digit (x && s) +ℤ pos 2 *ℤ w ≡ masked s (digit x +ℤ pos 2 *ℤ z)
mask_step true true z w e = omega (arith, ints)
mask_step true false z w e = omega (arith, ints)
mask_step false true z w e = omega (arith, ints)
mask_step false false z w e = omega (arith, ints)

-- digits that are masked by one digit
zip-mask : (s : Bool) (k : ℕ) (xs : List Bool) → length xs ≡ suc k → integer (zip_with ◌&&◌ xs (extended_by k (s ∷ []))) ≡ masked s (integer xs)
zip-mask s k [] h = absurd (omega arith)
zip-mask true zero (true ∷ []) h = refl
zip-mask true zero (false ∷ []) h = refl
zip-mask false zero (true ∷ []) h = refl
zip-mask false zero (false ∷ []) h = refl
zip-mask s (suc k) (x ∷ []) h = absurd (omega arith)
zip-mask s zero (x ∷ y ∷ xs) h = absurd (omega arith)
zip-mask s (suc k) (x ∷ y ∷ xs) h =
    let size = extended-length k (s ∷ []) (omega arith) in
    let some = zip_some ◌&&◌ y xs (extended_by k (s ∷ [])) (omega arith) in
    ap (λ ys. integer (zip_with ◌&&◌ (x ∷ y ∷ xs) ys)) (more_signs k s) ∙ integer-cons (x && s) (zip_with ◌&&◌ (y ∷ xs) (extended_by k (s ∷ []))) some ∙ mask_step x s (integer (y ∷ xs)) _ (zip-mask s k (y ∷ xs) (omega arith))

-- the conjunction with an integer of one digit
pub bitwise-mask : (s : Bool) (xs : List Bool) → 1 ≤ length xs → integer (bitwise ◌&&◌ xs (s ∷ [])) ≡ masked s (integer xs)
bitwise-mask s xs h =
    let e : 1 - length xs ≡ 0 = omega arith in
    ap (λ n. integer (zip_with ◌&&◌ (extended_by n xs) (extended_by (length xs - 1) (s ∷ [])))) e ∙ zip-mask s (length xs - 1) xs (omega arith)

-- the first literal and the others
pub head_is : (lits more : List Lit) (a : Lit) → slice_get lits 0 ≡ Some a → more ≡ drop 1 lits → lits ≡ a ∷ more
head_is [] more a e is = absurd (let h : None ≡ Some a = e in cc)
head_is (x ∷ lits) more a e is = let same : x ≡ a = cc in rw (is, same) refl

-- the value of the literal at a place
got : (gates : List Gate) (bits : List Bool) (lits : List Lit) (i : ℕ) (a : Lit) → slice_get lits i ≡ Some a → value_of gates bits a ≡ get_or (values gates bits lits) i false
got gates bits [] i a e = absurd (let h : None ≡ Some a = e in cc)
got gates bits (x ∷ lits) zero a e = let same : x ≡ a = cc in rw same refl
got gates bits (x ∷ lits) (suc i) a e = got gates bits lits i a e

-- the same as the arena grows
pub got_later : (old new : List Gate) (bits : List Bool) (lits : List Lit) (i : ℕ) (a : Lit) → Extends old new → AreBelow (length old) lits → slice_get lits i ≡ Some a → value_of new bits a ≡ get_or (values old bits lits) i false
got_later old new bits lits i a e b is = value_kept old new bits a e (below_get (length old) lits i a b is) ∙ got old bits lits i a is

-- a masked integer of an older arena
mask_kept : (g0 g1 : List Gate) (bits : List Bool) (a b : List Lit) (i : ℕ) (by : Lit) → Extends g0 g1 → AreBelow (length g0) a → AreBelow (length g0) b → slice_get b i ≡ Some by → masked (value_of g1 bits by) (integer_of g1 bits a) ≡ masked (get_or (values g0 bits b) i false) (integer_of g0 bits a)
mask_kept g0 g1 bits a b i by e ba bb is =
    ap (λ s. masked s (integer_of g1 bits a)) (got_later g0 g1 bits b i by e bb is) ∙ ap (λ vs. masked (get_or (values g0 bits b) i false) (integer vs)) (values_kept g0 g1 bits a e ba)

-- one row more
pub row_turn : (g0 g1 g2 : List Gate) (bits : List Bool) (a b rest more digits pushed : List Lit) (i : ℕ) (by low : Lit) (z : ℤ) → Extends g0 g1 → Extends g1 g2 → AreBelow (length g0) a → AreBelow (length g0) b → AreBelow (length g1) digits → i + 1 < length b → slice_get b i ≡ Some by → pushed ≡ digits ++ low ∷ [] → 1 ≤ length more → integer_of g2 bits (low ∷ more) ≡ integer_of g1 bits rest +ℤ masked (value_of g1 bits by) (integer_of g1 bits a) → onto (values g1 bits digits) (integer_of g1 bits rest +ℤ integer_of g0 bits a *ℤ integer (drop i (values g0 bits b))) ≡ z → onto (values g2 bits pushed) (integer_of g2 bits more +ℤ integer_of g0 bits a *ℤ integer (drop (i + 1) (values g0 bits b))) ≡ z
row_turn g0 g1 g2 bits a b rest more digits pushed i by low z e0 e1 ba bb bd h is pushed_is some v inv =
    let size = length-map more (value_of g2 bits) in
    let size_b = length-map b (value_of g0 bits) in
    let size_left = length-drop (i + 1) (values g0 bits b) in
    let s = get_or (values g0 bits b) i false in
    let x = integer_of g0 bits a in
    let below = integer (drop (i + 1) (values g0 bits b)) in
    let split : digit (value_of g2 bits low) +ℤ pos 2 *ℤ integer_of g2 bits more ≡ integer_of g1 bits rest +ℤ masked s x =
    sym (integer-cons (value_of g2 bits low) (values g2 bits more) (omega arith)) ∙ v ∙ ap (λ w. integer_of g1 bits rest +ℤ w) (mask_kept g0 g1 bits a b i by e0 ba bb is) in
    let left : integer (drop i (values g0 bits b)) ≡ digit s +ℤ pos 2 *ℤ below =
    ap integer (left_more g0 bits b i (omega arith)) ∙ integer-cons s (drop (i + 1) (values g0 bits b)) (omega arith) in
    let step : digit (value_of g2 bits low) +ℤ pos 2 *ℤ (integer_of g2 bits more +ℤ x *ℤ below) ≡ integer_of g1 bits rest +ℤ x *ℤ integer (drop i (values g0 bits b)) =
    moved (digit (value_of g2 bits low)) (integer_of g2 bits more) (integer_of g1 bits rest) (masked s x) (x *ℤ below) _ split (ap (λ w. x *ℤ w) left ∙ times-cons s x below) in
    ap (λ vs. onto vs (integer_of g2 bits more +ℤ x *ℤ below)) (values_push g1 g2 bits digits pushed low e1 bd pushed_is) ∙ onto-push (values g1 bits digits) (value_of g2 bits low) (integer_of g2 bits more +ℤ x *ℤ below) ∙ ap (onto (values g1 bits digits)) step ∙ inv

-- the row of the sign, which is the last
pub last_row : (g0 g1 g2 g3 : List Gate) (bits : List Bool) (a b rest row high digits whole : List Lit) (i : ℕ) (by : Lit) (z : ℤ) → Extends g0 g1 → Extends g1 g2 → Extends g2 g3 → AreBelow (length g0) a → AreBelow (length g0) b → AreBelow (length g1) digits → AreBelow (length g1) rest → i + 1 ≡ length b → slice_get b i ≡ Some by → whole ≡ digits ++ high → 1 ≤ length high → integer_of g2 bits row ≡ masked (value_of g1 bits by) (integer_of g1 bits a) → integer_of g3 bits high ≡ integer_of g2 bits rest -ℤ integer_of g2 bits row → onto (values g1 bits digits) (integer_of g1 bits rest +ℤ integer_of g0 bits a *ℤ integer (drop i (values g0 bits b))) ≡ z → integer_of g3 bits whole ≡ z
last_row g0 g1 g2 g3 bits a b rest row high digits whole i by z e0 e1 e2 ba bb bd br h is whole_is some v w inv =
    let size = length-map high (value_of g3 bits) in
    let size_b = length-map b (value_of g0 bits) in
    let s = get_or (values g0 bits b) i false in
    let x = integer_of g0 bits a in
    let left : drop i (values g0 bits b) ≡ s ∷ [] =
    left_more g0 bits b i (omega arith) ∙ ap (λ vs. s ∷ vs) (drop_all (i + 1) (values g0 bits b) (omega arith)) in
    let row_is = v ∙ mask_kept g0 g1 bits a b i by e0 ba bb is in
    let top : integer_of g3 bits high ≡ integer_of g1 bits rest +ℤ x *ℤ integer (drop i (values g0 bits b)) =
    w ∙ ap (λ vs. integer vs -ℤ integer_of g2 bits row) (values_kept g1 g2 bits rest e1 br) ∙ ap (λ r. integer_of g1 bits rest -ℤ r) row_is ∙ sign_row s x (integer_of g1 bits rest) ∙ ap (λ vs. integer_of g1 bits rest +ℤ x *ℤ integer vs) (sym left) in
    ap (integer_of g3 bits) whole_is ∙ ap integer (map-append (value_of g3 bits) digits high) ∙ integer-high (values g3 bits digits) (values g3 bits high) (omega arith) ∙ ap (λ vs. onto vs (integer_of g3 bits high)) (values_kept g1 g3 bits digits (grown_more g1 g2 g3 e1 e2) bd) ∙ ap (onto (values g1 bits digits)) top ∙ inv

-- no digit is settled and nothing is added up
pub no_row : (gates : List Gate) (bits : List Bool) (rest digits : List Lit) (low : Lit) (z : ℤ) → digits ≡ [] → rest ≡ low ∷ [] → value_of gates bits low ≡ false → onto (values gates bits digits) (integer_of gates bits rest +ℤ z) ≡ z
no_row gates bits rest digits low z none_is rest_is v = rw (none_is, rest_is, v) (omega (arith, ints))

-- literals that follow others
pub below_append : (n : ℕ) (xs ys : List Lit) → AreBelow n xs → AreBelow n ys → AreBelow n (xs ++ ys)
below_append n [] ys b b' = b'
below_append n (x ∷ xs) ys b b' = (b.0, below_append n xs ys b.1 b')
