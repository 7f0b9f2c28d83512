-- The keywords of arguments.
use Rattle.std.specs.Prelude.{ℕ, List, [], ◌∷◌, Option, Some, None}
use Rattle.py_tree.specs.declared.ids.NameId.{NameId}
use Rattle.py_tree.specs.Names.{text_of}

-- the keyword of an argument, where it has one
abbrev pub keyword_of : List (List ℕ) → Option NameId → List (List ℕ)
keyword_of names None = []
keyword_of names (Some n) = text_of names n ∷ []
