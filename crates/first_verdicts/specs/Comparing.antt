-- Comparing the integers of two values.
use Rattle.std.specs.Prelude.{ℤ, Bool, Option, Some, None}

-- f of both integers, where both are there
abbrev pub both : (ℤ → ℤ → Bool) → Option ℤ → Option ℤ → Option Bool
both f (Some a) (Some b) = Some (f a b)
both f (Some a) None = None
both f None b = None
