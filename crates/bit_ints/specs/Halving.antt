-- Integers halved, rounding down, and their digits.
use Rattle.std.specs.Prelude.{ℕ, zero, suc, ◌/◌, ◌%◌, ◌==◌, Bool, ℤ, pos, negsuc}

-- half of an integer, rounded down
abbrev pub half : ℤ → ℤ
half (pos n) = pos (n / 2)
half (negsuc n) = negsuc (n / 2)

-- half of half, so many times: the integer divided by that power of two, rounded down
abbrev pub halved : ℕ → ℤ → ℤ
halved zero z = z
halved (suc n) z = halved n (half z)

-- whether an integer is odd
abbrev pub is_odd : ℤ → Bool
is_odd (pos n) = n % 2 == 1
is_odd (negsuc n) = n % 2 == 0

-- The digit of an integer at a place, in two's complement without end: the lowest tells whether it is odd, and the others are those of its half.
abbrev pub digit : ℕ → ℤ → Bool
digit zero z = is_odd z
digit (suc n) z = digit n (half z)
