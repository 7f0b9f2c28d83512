-- Digits that are extended to one length.
use Rattle.std.proofs.Common.{◌≡◌, ℕ, suc, ◌+◌, ◌-◌, ◌≤◌, max, Bool, List, length, ◌+ℤ◌, refl, arith}
use Rattle.std.proofs.lemmas.List.{length-map}
use Rattle.bit_gates.specs.declared.lit.Gate.{Gate}
use Rattle.bit_gates.specs.declared.lit.Lit.{Lit}
use Rattle.bit_gates.specs.Formulas.{value_of}
use Rattle.bit_ints.specs.Integers.{integer, values, extended_by, sum_bits, zip_with, bitwise}
use Rattle.bit_ints.proofs.Sums.{digit, integer-sum, integer-extended}
use Rattle.bit_ints.proofs.Digits.{extended-map, extended-length}

-- the truth values of extended literals
pub values-extended : (gates : List Gate) (bits : List Bool) (k m : ℕ) (lits longer : List Lit) → longer ≡ extended_by k lits → k ≡ m → values gates bits longer ≡ extended_by m (values gates bits lits)
values-extended gates bits k m lits longer is e =
    rw (is, e) (extended-map (value_of gates bits) m lits)

-- extended literals have that length
pub length-widened : (n : ℕ) (lits longer : List Lit) → longer ≡ extended_by (n - length lits) lits → 1 ≤ length lits → length lits ≤ n → length longer ≡ n
length-widened n lits longer is h k =
    let e = extended-length (n - length lits) lits h in
    rw is (omega arith)

-- a sum of extended digits and a carry
pub sum_of : (c : Bool) (k m : ℕ) (xs ys : List Bool) → length xs + k ≡ length ys + m → 1 ≤ length xs → 1 ≤ length ys → integer (sum_bits c (extended_by (suc k) xs) (extended_by (suc m) ys)) ≡ integer xs +ℤ integer ys +ℤ digit c
sum_of c k m xs ys e h h' =
    let lx = extended-length k xs h in
    let ly = extended-length m ys h' in
    rw (integer-sum c (extended_by k xs) (extended_by m ys) (omega arith) (omega arith), integer-extended k xs, integer-extended m ys) refl

-- the same for literals that are extended to one length
pub carried_sum : (n : ℕ) (carry : Bool) (gates : List Gate) (bits : List Bool) (a b xs ys : List Lit) → n ≡ max (length a) (length b) → 1 ≤ length a → 1 ≤ length b → xs ≡ extended_by (n + 1 - length a) a → ys ≡ extended_by (n + 1 - length b) b → integer (sum_bits carry (values gates bits xs) (values gates bits ys)) ≡ integer (values gates bits a) +ℤ integer (values gates bits b) +ℤ digit carry
carried_sum n carry gates bits a b xs ys e h h' is is' =
    let la : length (values gates bits a) ≡ length a = length-map a (value_of gates bits) in
    let lb : length (values gates bits b) ≡ length b = length-map b (value_of gates bits) in
    let x = values-extended gates bits (n + 1 - length a) (suc (n - length a)) a xs is (omega arith) in
    let y = values-extended gates bits (n + 1 - length b) (suc (n - length b)) b ys is' (omega arith) in
    let s = sum_of carry (n - length a) (n - length b) (values gates bits a) (values gates bits b) (omega arith) (omega arith) (omega arith) in
    rw (x, y) s

-- digit by digit
pub widened_both : (f : Bool → Bool → Bool) (n : ℕ) (gates : List Gate) (bits : List Bool) (a b xs ys : List Lit) → n ≡ max (length a) (length b) → xs ≡ extended_by (n - length a) a → ys ≡ extended_by (n - length b) b → zip_with f (values gates bits xs) (values gates bits ys) ≡ bitwise f (values gates bits a) (values gates bits b)
widened_both f n gates bits a b xs ys e is is' =
    let la : length (values gates bits a) ≡ length a = length-map a (value_of gates bits) in
    let lb : length (values gates bits b) ≡ length b = length-map b (value_of gates bits) in
    let x = values-extended gates bits (n - length a) (length (values gates bits b) - length (values gates bits a)) a xs is (omega arith) in
    let y = values-extended gates bits (n - length b) (length (values gates bits a) - length (values gates bits b)) b ys is' (omega arith) in
    rw (x, y) refl
