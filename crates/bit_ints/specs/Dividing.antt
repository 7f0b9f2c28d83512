-- Quotients that are rounded down, and their remainders.
use Rattle.std.specs.Prelude.{◌≡◌, ◌⊎◌, ℤ, pos, ◌+ℤ◌, ◌*ℤ◌, ◌<ℤ◌, ◌≤ℤ◌}

-- a natural number below d
abbrev pub IsNaturalBelow : ℤ → ℤ → Type 0
IsNaturalBelow d r = (pos 0 ≤ℤ r) × (r <ℤ d)

-- a remainder by b: from 0 to below b, or from 0 down to above b
abbrev pub IsRemainder : ℤ → ℤ → Type 0
IsRemainder b r = IsNaturalBelow b r ⊎ ((b <ℤ r) × (r ≤ℤ pos 0))

-- q is the quotient of a by b, rounded down, and r what remains
abbrev pub AreFloored : ℤ → ℤ → ℤ → ℤ → Type 0
AreFloored a b q r = (a ≡ b *ℤ q +ℤ r) × IsRemainder b r
