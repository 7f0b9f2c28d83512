-- The names of a module, each a list of bytes in UTF-8.
use Rattle.std.specs.Prelude.{◌≡◌, ◌<◌, ℕ, List, [], ◌∷◌, ◌++◌, length, slice_index_or, if◌then◌else◌, bytes_eq}
use Rattle.std.specs.List.{list_any, position_or_len}
use Rattle.py_tree.specs.declared.ids.NameId.{NameId}

-- where a text stands, or else the next free place
abbrev pub name_place : List (List ℕ) → List ℕ → ℕ
name_place names text = position_or_len (bytes_eq text) names

-- the names with one more, where it is not there yet
abbrev pub with_name : List (List ℕ) → List ℕ → List (List ℕ)
with_name names text = if list_any (bytes_eq text) names then names else names ++ text ∷ []

-- no two names have one text
abbrev pub AreDistinct : List (List ℕ) → Type 0
AreDistinct names = (i j : ℕ) → i < length names → j < length names → slice_index_or names i [] ≡ slice_index_or names j [] → i ≡ j

-- the text of a name
abbrev pub text_of : List (List ℕ) → NameId → List ℕ
text_of names n = slice_index_or names n.index []

-- names are among the first k
module _ (k : ℕ) where
  abbrev pub AreNamesBelow : List NameId → Type 0
  AreNamesBelow [] = Unit {0}
  AreNamesBelow (x ∷ xs) = (x.index < k) × AreNamesBelow xs

  abbrev pub AreListsBelow : List (List NameId) → Type 0
  AreListsBelow [] = Unit {0}
  AreListsBelow (x ∷ xs) = AreNamesBelow x × AreListsBelow xs
