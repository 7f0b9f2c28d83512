-- Integers in two's complement, and those of literals under an assignment.
use Rattle.std.specs.Prelude.{ℕ, zero, suc, ◌<◌, ◌-◌, Bool, true, false, not, ◌&&◌, ◌||◌, List, [], ◌∷◌, length, map, ℤ, pos, negsuc, ◌+ℤ◌, ◌*ℤ◌, nat_lt, if◌then◌else◌}
use Rattle.bit_gates.specs.declared.lit.Gate.{Gate}
use Rattle.bit_gates.specs.declared.lit.Lit.{Lit}
use Rattle.bit_gates.specs.Formulas.{value_of}

-- The integer of truth values from the lowest to the sign, in two's complement: the sign counts -1, and each other digit counts itself and twice what follows.
abbrev pub integer : List Bool → ℤ
integer [] = pos 0
integer (b ∷ []) = if b then negsuc 0 else pos 0
integer (b ∷ c ∷ bs) = (if b then pos 1 else pos 0) +ℤ pos 2 *ℤ integer (c ∷ bs)

-- the truth values of literals under an assignment
abbrev pub values : List Gate → List Bool → List Lit → List Bool
values gates bits lits = map (value_of gates bits) lits

-- the integer of literals under an assignment
abbrev pub integer_of : List Gate → List Bool → List Lit → ℤ
integer_of gates bits lits = integer (values gates bits lits)

-- each literal is one of the first n gates or its negation
abbrev pub AreBelow : ℕ → List Lit → Type 0
AreBelow n [] = Unit {0}
AreBelow n (a ∷ lits) = (a.place < n) × AreBelow n lits

-- a list with its last element once more
abbrev pub with_sign_again : {A : Type 0} → List A → List A
with_sign_again [] = []
with_sign_again (b ∷ []) = b ∷ b ∷ []
with_sign_again (b ∷ c ∷ bs) = b ∷ with_sign_again (c ∷ bs)

-- a list with its last element n times more
abbrev pub extended_by : {A : Type 0} → ℕ → List A → List A
extended_by zero bs = bs
extended_by (suc n) bs = with_sign_again (extended_by n bs)

-- the truth values of an operation, digit by digit
abbrev pub zip_with : (Bool → Bool → Bool) → List Bool → List Bool → List Bool
zip_with f [] ys = []
zip_with f (x ∷ xs) [] = []
zip_with f (x ∷ xs) (y ∷ ys) = f x y ∷ zip_with f xs ys

-- The digits of an operation, digit by digit: the shorter list is first extended by its sign.
abbrev pub bitwise : (Bool → Bool → Bool) → List Bool → List Bool → List Bool
bitwise f xs ys = zip_with f (extended_by (length ys - length xs) xs) (extended_by (length xs - length ys) ys)

-- whether exactly one is true
abbrev pub xor : Bool → Bool → Bool
xor true b = not b
xor false b = b

-- whether two of three are true
abbrev pub most : Bool → Bool → Bool → Bool
most true b c = b || c
most false b c = b && c

-- the digits of a sum of digits and a carry, from the lowest
abbrev pub sum_bits : Bool → List Bool → List Bool → List Bool
sum_bits c [] ys = []
sum_bits c (x ∷ xs) [] = []
sum_bits c (x ∷ xs) (y ∷ ys) = xor (xor x y) c ∷ sum_bits (most x y c) xs ys

-- the last digit, which is the sign
abbrev pub sign : List Bool → Bool
sign [] = false
sign (b ∷ []) = b
sign (b ∷ c ∷ bs) = sign (c ∷ bs)

-- whether the digits are the same
abbrev pub are_same : List Bool → List Bool → Bool
are_same [] ys = true
are_same (x ∷ xs) [] = true
are_same (x ∷ xs) (y ∷ ys) = not (xor x y) && are_same xs ys

-- whether an integer is from -m to m - 1
abbrev pub is_within : ℕ → ℤ → Bool
is_within m (pos n) = nat_lt n m
is_within m (negsuc n) = nat_lt n m
