-- What was read keeps its trees while a module grows, and lists with one more.
use Rattle.std.proofs.Common.{◌≡◌, ℕ, ◌<◌, List, [], ◌∷◌, ◌++◌, length, Option, Some, refl, ap, arith, ◌∙◌}
use Rattle.spec_trees.specs.Stmt.{TypeExpr, TypeExprs}
use Rattle.spec_grammar.specs.Words.{Word}
use Rattle.spec_grammar.specs.TypeReading.{with_type}
use Rattle.py_tree.specs.declared.ids.TypeId.{TypeId}
use Rattle.py_tree.specs.Arena.{State, IsModule, shown_type}
use Rattle.py_tree.specs.Types.{types_tree, AreTypesBelow}
use Rattle.py_tree.proofs.Arenas.{types_grow, shown_type_kept, types_kept}
use Rattle.py_tree.proofs.TypeNodes.{types_more, types_push}
use Rattle.py_types.specs.Given.{Grows}

-- what is read in m is read in n
module _ (m n : State) (g : Grows m n) (d : IsModule m) where
  pub type_later : (i : ℕ) → i < length m.types → (i < length n.types) × (shown_type n i ≡ shown_type m i)
  type_later i lt = let more = types_grow m n g.extends in (omega arith, shown_type_kept m n i g.extends d lt)

  pub type_read : (i : ℕ) (o : Option (TypeExpr × List Word)) (r : List Word) → (i < length m.types) × (o ≡ Some (shown_type m i, r)) → (i < length n.types) × (o ≡ Some (shown_type n i, r))
  type_read i o r h = let l = type_later i h.0 in (l.0, rw l.1 h.1)

  pub types_later : (xs : List TypeId) → AreTypesBelow (length m.types) xs → AreTypesBelow (length n.types) xs × (types_tree (shown_type n) xs ≡ types_tree (shown_type m) xs)
  types_later xs h = (types_more (length m.types) (length n.types) (types_grow m n g.extends) xs h, types_kept m n g.extends d xs h)

  -- a list of m with one more that is there in n
  pub types_then : (xs ys : List TypeId) (x : TypeId) → AreTypesBelow (length m.types) xs → x.index < length n.types → ys ≡ xs ++ x ∷ [] → AreTypesBelow (length n.types) ys × (types_tree (shown_type n) ys ≡ with_type (types_tree (shown_type m) xs) (shown_type n x.index))
  types_then xs ys x h lt e =
      let l = types_later xs h in
      rw e (types_push (length n.types) xs x l.0 lt, types_pushed (shown_type n) xs x ∙ ap (λ (t : TypeExprs). with_type t (shown_type n x.index)) l.1)
    where
      types_pushed : (t : ℕ → TypeExpr) (xs : List TypeId) (x : TypeId) → types_tree t (xs ++ x ∷ []) ≡ with_type (types_tree t xs) (t x.index)
      types_pushed t [] x = refl
      types_pushed t (y ∷ xs) x = rw (types_pushed t xs x) refl
