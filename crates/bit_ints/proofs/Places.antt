-- The digits of integers in two's complement, place by place.
use Rattle.std.proofs.Common.{◌≡◌, ℕ, zero, suc, ◌+◌, ◌-◌, ◌*◌, ◌%◌, ◌≤◌, Bool, true, false, List, [], ◌∷◌, length, ℤ, pos, negsuc, ◌+ℤ◌, ◌*ℤ◌, refl, sym, ◌∙◌, ap, arith}
use Rattle.std.proofs.lemmas.Int.{ints}
use Rattle.bit_ints.specs.Halving.{is_odd, digit as digit_at}
use Rattle.bit_ints.specs.Integers.{integer, extended_by, zip_with, bitwise}
use Rattle.bit_ints.proofs.Digits.{extended-length}
use Rattle.bit_ints.proofs.Halves.{half-cons}
use Rattle.bit_ints.proofs.Sums.{digit, integer-extended}

-- a digit and twice what follows is odd where the digit is true
odd-cons : (b : Bool) (z : ℤ) → is_odd (digit b +ℤ pos 2 *ℤ z) ≡ b
odd-cons true (pos n) = let e : digit true +ℤ pos 2 *ℤ pos n ≡ pos (2 * n + 1) = omega (arith, ints) in let m : (2 * n + 1) % 2 ≡ 1 = omega arith in ap is_odd e ∙ rw m refl
odd-cons false (pos n) = let e : digit false +ℤ pos 2 *ℤ pos n ≡ pos (2 * n) = omega (arith, ints) in let m : (2 * n) % 2 ≡ 0 = omega arith in ap is_odd e ∙ rw m refl
odd-cons true (negsuc n) = let e : digit true +ℤ pos 2 *ℤ negsuc n ≡ negsuc (2 * n) = omega (arith, ints) in let m : (2 * n) % 2 ≡ 0 = omega arith in ap is_odd e ∙ rw m refl
odd-cons false (negsuc n) = let e : digit false +ℤ pos 2 *ℤ negsuc n ≡ negsuc (2 * n + 1) = omega (arith, ints) in let m : (2 * n + 1) % 2 ≡ 1 = omega arith in ap is_odd e ∙ rw m refl

-- an integer of one digit has that digit at each place
one_digit : (n : ℕ) (b : Bool) → digit_at n (integer (b ∷ [])) ≡ b
one_digit zero true = refl
one_digit zero false = refl
one_digit (suc n) true = one_digit n true
one_digit (suc n) false = one_digit n false

-- an operation on two values that are equal to others
both : (f : Bool → Bool → Bool) (x y u v : Bool) → x ≡ u → y ≡ v → f u v ≡ f x y
both f x y u v e e' = rw (e, e') refl

-- the digits of an operation digit by digit
digit-zip : (f : Bool → Bool → Bool) (n : ℕ) (xs ys : List Bool) → length xs ≡ length ys → 1 ≤ length xs → digit_at n (integer (zip_with f xs ys)) ≡ f (digit_at n (integer xs)) (digit_at n (integer ys))
digit-zip f n [] ys e h = absurd (omega arith)
digit-zip f n (x ∷ xs) [] e h = absurd (omega arith)
digit-zip f n (x ∷ []) (y ∷ []) e h = one_digit n (f x y) ∙ both f _ _ x y (one_digit n x) (one_digit n y)
digit-zip f n (x ∷ []) (y ∷ y' ∷ ys) e h = absurd (omega arith)
digit-zip f n (x ∷ x' ∷ xs) (y ∷ []) e h = absurd (omega arith)
digit-zip f zero (x ∷ x' ∷ xs) (y ∷ y' ∷ ys) e h = odd-cons (f x y) (integer (zip_with f (x' ∷ xs) (y' ∷ ys))) ∙ both f _ _ x y (odd-cons x (integer (x' ∷ xs))) (odd-cons y (integer (y' ∷ ys)))
digit-zip f (suc n) (x ∷ x' ∷ xs) (y ∷ y' ∷ ys) e h =
    ap (digit_at n) (half-cons (f x y) (integer (zip_with f (x' ∷ xs) (y' ∷ ys)))) ∙ digit-zip f n (x' ∷ xs) (y' ∷ ys) (omega arith) (omega arith) ∙ both f _ _ _ _ (ap (digit_at n) (half-cons x (integer (x' ∷ xs)))) (ap (digit_at n) (half-cons y (integer (y' ∷ ys))))

-- the same where the shorter list is extended by its sign
pub digit-bitwise : (f : Bool → Bool → Bool) (n : ℕ) (xs ys : List Bool) → 1 ≤ length xs → 1 ≤ length ys → digit_at n (integer (bitwise f xs ys)) ≡ f (digit_at n (integer xs)) (digit_at n (integer ys))
digit-bitwise f n xs ys h h' =
    let k = length ys - length xs in
    let m = length xs - length ys in
    let lx = extended-length k xs h in
    let ly = extended-length m ys h' in
    digit-zip f n (extended_by k xs) (extended_by m ys) (omega arith) (omega arith) ∙ both f _ _ _ _ (ap (digit_at n) (sym (integer-extended k xs))) (ap (digit_at n) (sym (integer-extended m ys)))
