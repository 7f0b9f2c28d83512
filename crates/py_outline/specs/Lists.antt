-- The fronts of lists.
use Rattle.std.specs.Prelude.{List, [], ◌∷◌, Option, Some, None}

-- the first item, where there is one
abbrev pub first_item : {A : Type 0} → List A → Option A
first_item [] = None
first_item (x ∷ xs) = Some x

-- the items behind the first one
abbrev pub without_first : {A : Type 0} → List A → List A
without_first [] = []
without_first (x ∷ xs) = xs

-- the items with another one in place of the first
abbrev pub with_first : {A : Type 0} → A → List A → List A
with_first y [] = []
with_first y (x ∷ xs) = y ∷ xs
