-- Words that are put on another line, one after the other.
use Rattle.std.proofs.Common.{◌≡◌, ℕ, zero, suc, ◌+◌, ◌<◌, List, [], ◌∷◌, length, map, get_or, refl, ap, ◌∙◌, arith}
use Rattle.std.proofs.lemmas.List.{length-map}
use Rattle.std.specs.Prelude.{slice_set}
use Rattle.spec_grammar.specs.Words.{Word}
use Rattle.spec_syntax.specs.Texts.{moved}
use Rattle.py_words.specs.declared.words.Word as kept
use Rattle.py_words.specs.Seen.{seen}

-- words of which so many at the front stand on the line n
abbrev pub moved_front : ℕ → ℕ → List Word → List Word
moved_front n zero s = s
moved_front n (suc i) [] = []
moved_front n (suc i) (w ∷ s) = moved n w ∷ moved_front n i s

-- all words are at the front
pub all_moved : (n : ℕ) (s : List Word) → moved_front n (length s) s ≡ map (moved n) s
all_moved n [] = refl
all_moved n (w ∷ s) = ap (λ (t : List Word). moved n w ∷ t) (all_moved n s)

-- all words are moved where none is left
pub front_all : (n i : ℕ) (xs ys : List kept.Word) → map seen xs ≡ moved_front n i (map seen ys) → i ≡ length ys → map seen xs ≡ map (moved n) (map seen ys)
front_all n i xs ys e f = e ∙ rw (f, ← length-map ys seen) (all_moved n (map seen ys))

-- one word more
front_next : (n i : ℕ) (xs : List kept.Word) (s : List Word) (x y : kept.Word) → map seen xs ≡ moved_front n i s → i < length xs → seen y ≡ moved n (seen (get_or xs i x)) → map seen (slice_set xs i y) ≡ moved_front n (suc i) s
front_next n i [] s x y e lt g = absurd (omega arith)
front_next n zero (v ∷ xs) [] x y e lt g = absurd cc
front_next n zero (v ∷ xs) (w ∷ s) x y e lt g = let first : seen v ≡ w = cc in let later : map seen xs ≡ s = cc in rw (g, first, later) refl
front_next n (suc i) (v ∷ xs) [] x y e lt g = absurd cc
front_next n (suc i) (v ∷ xs) (w ∷ s) x y e lt g = let first : seen v ≡ moved n w = cc in let later : map seen xs ≡ moved_front n i s = cc in rw (first, front_next n i xs s x y later (omega arith) g) refl

pub front_more : (n i : ℕ) (xs : List kept.Word) (s : List Word) (x y : kept.Word) → map seen xs ≡ moved_front n i s → i < length xs → seen y ≡ moved n (seen (get_or xs i x)) → map seen (slice_set xs i y) ≡ moved_front n (i + 1) s
front_more n i xs s x y e lt g = let next : i + 1 ≡ suc i = omega arith in rw next (front_next n i xs s x y e lt g)
