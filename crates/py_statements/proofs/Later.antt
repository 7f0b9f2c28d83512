-- What was read keeps its trees and texts while a module grows.
use Rattle.std.proofs.Common.{◌≡◌, ℕ, ◌<◌, List, [], ◌∷◌, ◌++◌, length, map, refl, ap, arith, ◌∙◌}
use Rattle.py_tree.specs.declared.ids.NameId.{NameId}
use Rattle.py_tree.specs.Arena.{State, IsModule, shown, shown_type}
use Rattle.py_tree.specs.Names.{text_of, AreNamesBelow}
use Rattle.py_tree.proofs.Arenas.{names_grow, exprs_grow, types_grow, text_kept, shown_kept, shown_type_kept}
use Rattle.py_statements.specs.Given.{Grows}

names_push : (k : ℕ) (xs : List NameId) (x : NameId) → AreNamesBelow k xs → x.index < k → AreNamesBelow k (xs ++ x ∷ [])
names_push k [] x h lt = (lt, tt)
names_push k (y ∷ xs) x h lt = (h.0, names_push k xs x h.1 lt)

-- what is read in m is read in n
module _ (m n : State) (g : Grows m n) (d : IsModule m) where
  pub expr_later : (i : ℕ) → i < length m.exprs → (i < length n.exprs) × (shown n i ≡ shown m i)
  expr_later i lt = let more = exprs_grow m n g.extends in (omega arith, shown_kept m n i g.extends d lt)

  pub type_later : (i : ℕ) → i < length m.types → (i < length n.types) × (shown_type n i ≡ shown_type m i)
  type_later i lt = let more = types_grow m n g.extends in (omega arith, shown_type_kept m n i g.extends d lt)

  pub text_later : (x : NameId) → x.index < length m.names → (x.index < length n.names) × (text_of n.names x ≡ text_of m.names x)
  text_later x lt = let more = names_grow m n g.extends in (omega arith, text_kept m n x.index g.extends lt)

  pub names_later : (xs : List NameId) → AreNamesBelow (length m.names) xs → AreNamesBelow (length n.names) xs × (map (text_of n.names) xs ≡ map (text_of m.names) xs)
  names_later [] h = (tt, refl)
  names_later (x ∷ xs) h =
      let one = text_later x h.0 in
      let more = names_later xs h.1 in
      ((one.0, more.0), rw (one.1, more.1) refl)

  -- a list of m with one more name that is there in n
  pub names_then : (xs ys : List NameId) (x : NameId) → AreNamesBelow (length m.names) xs → x.index < length n.names → ys ≡ xs ++ x ∷ [] → AreNamesBelow (length n.names) ys × (map (text_of n.names) ys ≡ map (text_of m.names) xs ++ text_of n.names x ∷ [])
  names_then xs ys x h lt e =
      let l = names_later xs h in
      rw e (names_push (length n.names) xs x l.0 lt, texts_pushed (text_of n.names) xs x ∙ ap (λ (t : List (List ℕ)). t ++ text_of n.names x ∷ []) l.1)
    where
      texts_pushed : (t : NameId → List ℕ) (xs : List NameId) (x : NameId) → map t (xs ++ x ∷ []) ≡ map t xs ++ t x ∷ []
      texts_pushed t [] x = refl
      texts_pushed t (y ∷ xs) x = rw (texts_pushed t xs x) refl
