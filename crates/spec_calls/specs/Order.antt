-- The order in which integers are listed.
use Rattle.std.specs.Prelude.{ℕ, ◌+◌, ◌*◌, ℤ, pos, negsuc}

-- the place of an integer in the order 0, -1, 1, -2, 2 and so on
abbrev pub rank : ℤ → ℕ
rank (pos m) = 2 * m
rank (negsuc m) = 2 * m + 1
