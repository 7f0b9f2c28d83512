-- The last item of a list is the first of its reverse.
use Rattle.std.proofs.Common.{◌≡◌, ℕ, suc, ◌-◌, List, [], ◌∷◌, ◌++◌, length, reverse, refl, sym, ap, subst, arith, ◌∙◌}
use Rattle.std.proofs.Math.ListN.{set}
use Rattle.std.proofs.lemmas.List.{reverse-append}
use Rattle.py_outline.specs.Lists.{with_first}

-- a list that is not empty keeps its last item
with_first-append : {A : Type 0} (y : A) (xs ys zs : List A) (x : A) → xs ≡ ys ++ x ∷ [] → with_first y (xs ++ zs) ≡ with_first y xs ++ zs
with_first-append y xs [] zs x e = rw e refl
with_first-append y xs (w ∷ ys) zs x e = rw e refl

-- the same, before one more item
turned : {A : Type 0} (y x w : A) (xs : List A) → reverse (set (w ∷ xs) (length (w ∷ xs) - 1) y) ≡ with_first y (reverse (w ∷ xs)) → reverse (set (x ∷ w ∷ xs) (length (x ∷ w ∷ xs) - 1) y) ≡ with_first y (reverse (x ∷ w ∷ xs))
turned y x w xs h =
    let e : length (x ∷ w ∷ xs) - 1 ≡ suc (length (w ∷ xs) - 1) = omega arith in
    subst (λ (n : ℕ). reverse (set (x ∷ w ∷ xs) n y) ≡ with_first y (reverse (x ∷ w ∷ xs))) (sym e)
    (reverse-append (x ∷ []) (set (w ∷ xs) (length (w ∷ xs) - 1) y)
    ∙ ap (λ t. t ++ x ∷ []) h
    ∙ sym (with_first-append y (reverse (w ∷ xs)) (reverse xs) (x ∷ []) w (reverse-append (w ∷ []) xs))
    ∙ ap (with_first y) (sym (reverse-append (x ∷ []) (w ∷ xs))))

-- another item in place of the last one
pub reverse-set_last : {A : Type 0} (y : A) (xs : List A) → reverse (set xs (length xs - 1) y) ≡ with_first y (reverse xs)
reverse-set_last y [] = refl
reverse-set_last y (x ∷ []) = refl
reverse-set_last y (x ∷ w ∷ xs) = turned y x w xs (reverse-set_last y (w ∷ xs))
