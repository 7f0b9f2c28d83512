-- The word at a place, as the words from there on show it.
use Rattle.std.proofs.Common.{◌≡◌, ℕ, zero, suc, List, [], ◌∷◌, map, Option, Some, None, refl, add-one}
use Rattle.std.specs.List.{slice_get}
use Rattle.py_words.specs.declared.words.Word.{Word}
use Rattle.py_words.specs.Seen.{seen}
use Rattle.py_words.specs.Found.{IsFirst}

-- what a place gives is what the words from there on begin with
pub first_at : (xs : List Word) (p : ℕ) (o : Option Word) → o ≡ slice_get xs p → IsFirst (map seen xs) p o
first_at [] zero None e = refl
first_at [] (suc p) None e = refl
first_at [] p (Some w) e = absurd cc
first_at (x ∷ xs) zero None e = absurd cc
first_at (x ∷ xs) zero (Some w) e = let same : w ≡ x = cc in rw same refl
first_at (x ∷ xs) (suc p) None e = first_at xs p None e
first_at (x ∷ xs) (suc p) (Some w) e = let later = first_at xs p (Some w) e in simp add-one (simp add-one at later)
