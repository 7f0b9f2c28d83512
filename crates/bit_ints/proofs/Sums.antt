-- Laws of integers in two's complement, over truth values.
use Rattle.std.proofs.Common.{◌≡◌, ℕ, zero, suc, ◌<◌, ◌≤◌, Bool, true, false, not, List, [], ◌∷◌, ◌++◌, length, map, ℤ, pos, negsuc, ◌+ℤ◌, ◌*ℤ◌, ◌-ℤ◌, if◌then◌else◌, ◌==◌, ◌%◌, ◌/◌, ◌⊎◌, inl, inr, refl, ◌∙◌, ap, arith}
use Rattle.std.proofs.lemmas.Int.{ints}
use Rattle.bit_ints.specs.Integers.{integer, with_sign_again, extended_by, xor, most, sum_bits}

-- a truth value as 1 or 0
abbrev pub digit : Bool → ℤ
digit b = if b then pos 1 else pos 0

-- the sign once more keeps the integer
pub integer-again : (bs : List Bool) → integer (with_sign_again bs) ≡ integer bs
integer-again [] = refl
integer-again (true ∷ []) = refl
integer-again (false ∷ []) = refl
integer-again (b ∷ c ∷ []) = ap (λ z. digit b +ℤ pos 2 *ℤ z) (integer-again (c ∷ []))
integer-again (b ∷ c ∷ d ∷ bs) = ap (λ z. digit b +ℤ pos 2 *ℤ z) (integer-again (c ∷ d ∷ bs))

-- the sign n times more keeps the integer
pub integer-extended : (n : ℕ) (bs : List Bool) → integer (extended_by n bs) ≡ integer bs
integer-extended zero bs = refl
integer-extended (suc n) bs = integer-again (extended_by n bs) ∙ integer-extended n bs

-- a full adder, with what follows
full : (x y c : Bool) (a b s : ℤ) → s ≡ a +ℤ b +ℤ digit (most x y c) → digit (xor (xor x y) c) +ℤ pos 2 *ℤ s ≡ (digit x +ℤ pos 2 *ℤ a) +ℤ (digit y +ℤ pos 2 *ℤ b) +ℤ digit c
full true true true a b s e = omega (arith, ints)
full true true false a b s e = omega (arith, ints)
full true false true a b s e = omega (arith, ints)
full true false false a b s e = omega (arith, ints)
full false true true a b s e = omega (arith, ints)
full false true false a b s e = omega (arith, ints)
full false false true a b s e = omega (arith, ints)
full false false false a b s e = omega (arith, ints)

-- the sum of two digits with their signs once more
last_digits : (x y c : Bool) → integer (sum_bits c (with_sign_again (x ∷ [])) (with_sign_again (y ∷ []))) ≡ integer (x ∷ []) +ℤ integer (y ∷ []) +ℤ digit c
last_digits true true true = refl
last_digits true true false = refl
last_digits true false true = refl
last_digits true false false = refl
last_digits false true true = refl
last_digits false true false = refl
last_digits false false true = refl
last_digits false false false = refl

-- The sum of two integers of one length and a carry, one digit wider.
pub integer-sum : (c : Bool) (xs ys : List Bool) → length xs ≡ length ys → 1 ≤ length xs → integer (sum_bits c (with_sign_again xs) (with_sign_again ys)) ≡ integer xs +ℤ integer ys +ℤ digit c
integer-sum c [] ys e h = absurd (omega arith)
integer-sum c (x ∷ xs) [] e h = absurd (omega arith)
integer-sum c (x ∷ []) (y ∷ []) e h = last_digits x y c
integer-sum c (x ∷ []) (y ∷ y' ∷ ys) e h = absurd (omega arith)
integer-sum c (x ∷ x' ∷ xs) (y ∷ []) e h = absurd (omega arith)
integer-sum c (x ∷ x' ∷ []) (y ∷ y' ∷ []) e h = full x y c (integer (x' ∷ [])) (integer (y' ∷ [])) _ (last_digits x' y' (most x y c))
integer-sum c (x ∷ x' ∷ []) (y ∷ y' ∷ y'' ∷ ys) e h = absurd (omega arith)
integer-sum c (x ∷ x' ∷ x'' ∷ xs) (y ∷ y' ∷ []) e h = absurd (omega arith)
integer-sum c (x ∷ x' ∷ x'' ∷ xs) (y ∷ y' ∷ y'' ∷ ys) e h = full x y c (integer (x' ∷ x'' ∷ xs)) (integer (y' ∷ y'' ∷ ys)) _ (integer-sum (most x y c) (x' ∷ x'' ∷ xs) (y' ∷ y'' ∷ ys) (omega arith) (omega arith))

-- the negated digits are those of -1 - z
pub integer-not : (bs : List Bool) → 1 ≤ length bs → integer (map not bs) ≡ negsuc 0 -ℤ integer bs
integer-not [] h = absurd (omega arith)
integer-not (true ∷ []) h = refl
integer-not (false ∷ []) h = refl
integer-not (true ∷ c ∷ bs) h = let k = integer-not (c ∷ bs) (omega arith) in omega (arith, ints)
integer-not (false ∷ c ∷ bs) h = let k = integer-not (c ∷ bs) (omega arith) in omega (arith, ints)

-- the integer of lower digits and what follows them
abbrev pub onto : List Bool → ℤ → ℤ
onto [] z = z
onto (b ∷ bs) z = digit b +ℤ pos 2 *ℤ onto bs z

-- a sign behind lower digits
pub integer-onto : (bs : List Bool) (s : Bool) → integer (bs ++ s ∷ []) ≡ onto bs (integer (s ∷ []))
integer-onto [] s = refl
integer-onto (b ∷ []) s = refl
integer-onto (b ∷ c ∷ bs) s = ap (λ z. digit b +ℤ pos 2 *ℤ z) (integer-onto (c ∷ bs) s)

-- one more lower digit
pub onto-push : (bs : List Bool) (d : Bool) (z : ℤ) → onto (bs ++ d ∷ []) z ≡ onto bs (digit d +ℤ pos 2 *ℤ z)
onto-push [] d z = refl
onto-push (b ∷ bs) d z = ap (λ z. digit b +ℤ pos 2 *ℤ z) (onto-push bs d z)

-- n, or the integer that has its digits negated
abbrev pub signed : Bool → ℕ → ℤ
signed negative n = if negative then negsuc n else pos n

-- a number below 2
cases_two : (m : ℕ) → m < 2 → (m ≡ 0) ⊎ (m ≡ 1)
cases_two zero h = inl refl
cases_two (suc zero) h = inr refl
cases_two (suc (suc m)) h = absurd (omega arith)

-- the step for an even number
even : (negative : Bool) (n : ℕ) → n % 2 ≡ 0 → digit (xor (n % 2 == 1) negative) +ℤ pos 2 *ℤ signed negative (n / 2) ≡ signed negative n
even true n e = rw e (omega (arith, ints))
even false n e = rw e (omega (arith, ints))

-- the step for an odd number
odd : (negative : Bool) (n : ℕ) → n % 2 ≡ 1 → digit (xor (n % 2 == 1) negative) +ℤ pos 2 *ℤ signed negative (n / 2) ≡ signed negative n
odd true n e = rw e (omega (arith, ints))
odd false n e = rw e (omega (arith, ints))

-- a number is even or odd
two_ways : (n : ℕ) → (n % 2 ≡ 0) ⊎ (n % 2 ≡ 1)
two_ways n = cases_two (n % 2) (omega arith)

-- the lowest digit and the others
pub halves : (negative : Bool) (n : ℕ) → digit (xor (n % 2 == 1) negative) +ℤ pos 2 *ℤ signed negative (n / 2) ≡ signed negative n
halves negative n = elim (two_ways n) [ inl e ↦ even negative n e | inr e ↦ odd negative n e ]
