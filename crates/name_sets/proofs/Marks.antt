-- Sets of the names of a module, told by their texts.
use Rattle.std.proofs.Common.{◌≡◌, ℕ, zero, suc, ◌<◌, Bool, true, false, List, [], ◌∷◌, length, replicate, refl, ap, arith, get_or, slice_set}
use Rattle.std.specs.Str.{bytes_eq}
use Rattle.std.proofs.lemmas.Slice.Eq.{bytes_eq-Decides}
use Rattle.spec_contracts.specs.ContractLines.{is_among}
use Rattle.py_tree.specs.Names.{AreDistinct}
use Rattle.name_sets.specs.Marks.{marks_of}

-- the empty set
pub marks_none : (names : List (List ℕ)) → replicate (length names) false ≡ marks_of [] names
marks_none [] = refl
marks_none (x ∷ xs) = ap (λ (v : List Bool). false ∷ v) (marks_none xs)

pub marks_length : (ts names : List (List ℕ)) → length (marks_of ts names) ≡ length names
marks_length ts [] = refl
marks_length ts (x ∷ xs) = ap suc (marks_length ts xs)

-- the mark of a name
pub mark_at : (ts names : List (List ℕ)) (i : ℕ) (d : Bool) → i < length names → get_or (marks_of ts names) i d ≡ is_among ts (get_or names i [])
mark_at ts [] i d lt = absurd (omega arith)
mark_at ts (x ∷ xs) zero d lt = refl
mark_at ts (x ∷ xs) (suc i) d lt = mark_at ts xs i d (omega arith)

-- ---- one more name

same_text : (x y : List ℕ) → x ≡ y → bytes_eq x y ≡ true
same_text x y e = (bytes_eq-Decides x y).1 e

other_text : (x y : List ℕ) → (x ≡ y → ⊥) → bytes_eq x y ≡ false
other_text x y n = by_test (bytes_eq x y) refl
  where
    by_test : (b : Bool) → bytes_eq x y ≡ b → b ≡ false
    by_test true e = absurd (n ((bytes_eq-Decides x y).0 e))
    by_test false e = refl

-- names that are not x are in the set as before
marks_same : (ts names : List (List ℕ)) (x : List ℕ) → ((i : ℕ) → i < length names → get_or names i [] ≡ x → ⊥) → marks_of ts names ≡ marks_of (x ∷ ts) names
marks_same ts [] x n = refl
marks_same ts (y ∷ ys) x n =
    let here : bytes_eq y x ≡ false = other_text y x (n zero (omega arith)) in
    let rest : marks_of ts ys ≡ marks_of (x ∷ ts) ys = marks_same ts ys x (λ i lt. n (suc i) (omega arith)) in
    rw (here, ← rest) refl

pub marks_more : (ts names : List (List ℕ)) (i : ℕ) → AreDistinct names → i < length names → slice_set (marks_of ts names) i true ≡ marks_of (get_or names i [] ∷ ts) names
marks_more ts [] i d lt = absurd (omega arith)
marks_more ts (y ∷ ys) zero d lt =
    let rest : marks_of ts ys ≡ marks_of (y ∷ ts) ys = marks_same ts ys y (λ i lt e. let z : suc i ≡ zero = d (suc i) zero (omega arith) (omega arith) e in absurd (omega arith)) in
    rw (same_text y y refl, ← rest) refl
marks_more ts (y ∷ ys) (suc i) d lt =
    let here : bytes_eq y (get_or ys i []) ≡ false = other_text y (get_or ys i []) (λ e. let z : zero ≡ suc i = d zero (suc i) (omega arith) (omega arith) e in absurd (omega arith)) in
    let rest : slice_set (marks_of ts ys) i true ≡ marks_of (get_or ys i [] ∷ ts) ys = marks_more ts ys i (λ j k a b e. let z : suc j ≡ suc k = d (suc j) (suc k) (omega arith) (omega arith) e in omega arith) (omega arith) in
    rw (here, rest) refl
