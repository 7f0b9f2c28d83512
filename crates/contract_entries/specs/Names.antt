-- Names that are read before others.
use Rattle.std.specs.Prelude.{ℕ, List, ◌++◌, Option, Some, None}

-- names before those of the rest, where it is one of names
abbrev pub behind_names : List (List ℕ) → Option (List (List ℕ)) → Option (List (List ℕ))
behind_names xs None = None
behind_names xs (Some ys) = Some (xs ++ ys)
