-- What the letters of integers and strings give.
use Rattle.std.specs.Prelude.{ℕ, ◌==◌, nat_lt, List, [], ◌∷◌, Option, Some, None, if◌then◌else◌}
use Rattle.std.specs.Option.{option_map}
use Rattle.spec_tokens.specs.Values.{Escape, escape_of}
use Rattle.py_tokens.specs.declared.escapes.Given.{Given}
use Rattle.py_tokens.specs.declared.escapes.Given.TheVariants.{Nothing, Letter, Kept}

-- a number that is below a bound
abbrev pub below : ℕ → ℕ → Option ℕ
below bound n = if nat_lt n bound then Some n else None

-- the code points that are given; a letter that is kept has its backslash before it
abbrev pub points : Given → List ℕ
points Nothing = []
points (Letter c) = c ∷ []
points (Kept c) = 92 ∷ c ∷ []

-- what a number of letters gives, by its code points
abbrev pub shown : Option (ℕ × Given) → Escape
shown o = option_map (λ x. (x.0, points x.1)) o

-- how many letters behind a letter belong to it, and what they give with it
abbrev pub given_of : ℕ → List ℕ → Escape
given_of c s = if c == 92 then escape_of s else Some (0, c ∷ [])
