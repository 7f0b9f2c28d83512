-- Letters without what stands at their end, and behind the first one that separates.
use Rattle.std.specs.Prelude.{ℕ, suc, Bool, nat_lt, List, [], length, reverse, Option, Some, None, if◌then◌else◌}
use Rattle.std.specs.List.{position_or_len, after_first, slice_split}
use Rattle.spec_syntax.specs.Texts.{unindented}

-- the letters without the spaces and tabs at their end
abbrev pub without_end : List ℕ → List ℕ
without_end s = reverse (unindented (reverse s))

-- what stands behind the first letter that passes the test, where there is one
abbrev pub behind_first : (ℕ → Bool) → List ℕ → Option (List ℕ)
behind_first p s = if nat_lt (position_or_len p s) (length s) then Some (after_first p s) else None

-- the parts between separators of what is left, where anything is
abbrev pub parts_of : (ℕ → Bool) → Option (List ℕ) → List (List ℕ)
parts_of p None = []
parts_of p (Some s) = slice_split p s

-- how much is left
abbrev pub size_of : Option (List ℕ) → ℕ
size_of None = 0
size_of (Some s) = suc (length s)
