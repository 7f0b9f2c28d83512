-- Lists of results that go on behind others.
use Rattle.std.proofs.Common.{◌≡◌, ℕ, List, [], ◌∷◌, ◌++◌, Result, Ok, Err, refl, ap}
use Rattle.spec_forms.specs.Forms.{onto, both}

-- these before others
abbrev pub all_onto : {X : Type 0} → List X → Result (List X) ℕ → Result (List X) ℕ
all_onto [] r = r
all_onto (x ∷ xs) r = onto x (all_onto xs r)

pub onto_append : {X : Type 0} (xs ys : List X) (r : Result (List X) ℕ) → all_onto (xs ++ ys) r ≡ all_onto xs (all_onto ys r)
onto_append [] ys r = refl
onto_append (x ∷ xs) ys r = ap (onto x) (onto_append xs ys r)

pub onto_end : {X : Type 0} (xs : List X) → all_onto xs (Ok []) ≡ Ok xs
onto_end [] = refl
onto_end (x ∷ xs) = ap (onto x) (onto_end xs)

pub onto_error : {X : Type 0} (xs : List X) (n : ℕ) → all_onto xs (Err n) ≡ Err n
onto_error [] n = refl
onto_error (x ∷ xs) n = ap (onto x) (onto_error xs n)

pub both_onto : {X : Type 0} (xs : List X) (r : Result (List X) ℕ) → both (λ fs gs. fs ++ gs) (Ok xs) r ≡ all_onto xs r
both_onto [] (Ok ys) = refl
both_onto [] (Err n) = refl
both_onto (x ∷ xs) (Ok ys) = ap (onto x) (both_onto xs (Ok ys))
both_onto (x ∷ xs) (Err n) = ap (onto x) (both_onto xs (Err n))
