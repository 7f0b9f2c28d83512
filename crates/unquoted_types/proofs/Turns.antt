-- Types that are exchanged one after the other.
use Rattle.std.proofs.Common.{◌≡◌, ℕ, zero, suc, ◌+◌, ◌<◌, ◌≤◌, List, [], ◌∷◌, ◌++◌, length, drop, drop-cons, get_or, Option, Some, None, refl, sym, ap, arith, ◌∙◌}
use Rattle.std.proofs.lemmas.Grind.{common_steps}
use Rattle.std.specs.Option.{option_map}
use Rattle.spec_trees.specs.Expr.{StringPart}
use Rattle.spec_trees.specs.Stmt.{TypeExpr, TypeExprs, no_types, type_item, union}
use Rattle.spec_types.specs.Quotes.{all_exchanged, both, exchanged}
use Rattle.py_tree.specs.declared.ids.TypeId.{TypeId}
use Rattle.py_tree.specs.Arena.{State, IsModule, shown_type}
use Rattle.py_tree.specs.Types.{types_tree, AreTypesBelow}
use Rattle.py_types.specs.Given.{Grows}
use Rattle.py_types.proofs.Later.{type_later, types_later}
use Rattle.py_tree.proofs.TypeNodes.{types_push}

pub drop_from : {X : Type 0} (xs : List X) (i : ℕ) (d : X) → i < length xs → drop i xs ≡ get_or xs i d ∷ drop (i + 1) xs
drop_from xs i d lt = grind (arith, common_steps, drop-cons)

pub drop_all : {X : Type 0} (xs : List X) (i : ℕ) → length xs ≤ i → drop i xs ≡ []
drop_all [] zero le = refl
drop_all [] (suc i) le = refl
drop_all (x ∷ xs) zero le = absurd (omega arith)
drop_all (x ∷ xs) (suc i) le = drop_all xs i (omega arith)

-- the trees of types before others
module _ (t : ℕ → TypeExpr) where
  abbrev pub onto : List TypeId → TypeExprs → TypeExprs
  onto [] rest = rest
  onto (x ∷ xs) rest = type_item (t x.index) (onto xs rest)

  onto_none : (xs : List TypeId) → onto xs no_types ≡ types_tree t xs
  onto_none [] = refl
  onto_none (x ∷ xs) = ap (type_item (t x.index)) (onto_none xs)

  onto_push : (xs : List TypeId) (x : TypeId) (rest : TypeExprs) → onto (xs ++ x ∷ []) rest ≡ onto xs (type_item (t x.index) rest)
  onto_push [] x rest = refl
  onto_push (y ∷ xs) x rest = ap (type_item (t y.index)) (onto_push xs x rest)

onto_kept : (m n : State) (g : Grows m n) (d : IsModule m) (xs : List TypeId) (rest : TypeExprs) → AreTypesBelow (length m.types) xs → onto (shown_type n) xs rest ≡ onto (shown_type m) xs rest
onto_kept m n g d [] rest h = refl
onto_kept m n g d (x ∷ xs) rest h = rw ((type_later m n g d x.index h.0).1, onto_kept m n g d xs rest h.1) refl

-- none is made yet
pub none_made : (t : ℕ → TypeExpr) (made : List TypeId) (o : Option TypeExprs) → made ≡ [] → o ≡ option_map (onto t made) o
none_made t made None e = refl
none_made t made (Some ts) e = rw e refl

-- From the place i on these types are still to be exchanged, and those before it are made.
module _ (held : StringPart → Option TypeExpr) (t : ℕ → TypeExpr) (xs : List TypeId) (i : ℕ) where
  abbrev from : ℕ → Option TypeExprs
  from j = all_exchanged held (types_tree t (drop j xs))

  from_more : (d : TypeId) → i < length xs → from i ≡ both type_item (exchanged held (t (get_or xs i d).index)) (from (i + 1))
  from_more d lt = ap (λ (ys : List TypeId). all_exchanged held (types_tree t ys)) (drop_from xs i d lt)

  -- one more is made
  pub one_more : (m n : State) (g : Grows m n) (v : IsModule m) (d x : TypeId) (made more : List TypeId) (all : Option TypeExprs) → i < length xs → AreTypesBelow (length m.types) made → x.index < length n.types → more ≡ made ++ x ∷ []
      → exchanged held (t (get_or xs i d).index) ≡ Some (shown_type n x.index) → all ≡ option_map (onto (shown_type m) made) (from i)
      → AreTypesBelow (length n.types) more × (all ≡ option_map (onto (shown_type n) more) (from (i + 1)))
  one_more m n g v d x made more all lt h b e f a =
      let kept = types_later m n g v made h in
      rw e (types_push (length n.types) made x kept.0 b, a ∙ ap (option_map (onto (shown_type m) made)) (from_more d lt) ∙ ap (λ (o : Option TypeExpr). option_map (onto (shown_type m) made) (both type_item o (from (i + 1)))) f ∙ by_rest (from (i + 1)))
    where
      by_rest : (o : Option TypeExprs) → option_map (onto (shown_type m) made) (both type_item (Some (shown_type n x.index)) o) ≡ option_map (onto (shown_type n) (made ++ x ∷ [])) o
      by_rest None = refl
      by_rest (Some rest) = ap (λ (y : TypeExprs). Some y) (sym (onto_push (shown_type n) made x rest ∙ onto_kept m n g v made (type_item (shown_type n x.index) rest) h))

  -- one holds no type
  pub one_without : (d : TypeId) (made : TypeExprs → TypeExprs) (all : Option TypeExprs) → i < length xs → exchanged held (t (get_or xs i d).index) ≡ None → all ≡ option_map made (from i) → all ≡ None
  one_without d made all lt f a = a ∙ ap (option_map made) (from_more d lt ∙ ap (λ (o : Option TypeExpr). both type_item o (from (i + 1))) f)

  -- all are made
  pub all_made : (u : ℕ → TypeExpr) (made : List TypeId) (all : Option TypeExprs) → length xs ≤ i → all ≡ option_map (onto u made) (from i) → all ≡ Some (types_tree u made)
  all_made u made all le a =
      a ∙ ap (λ (ys : List TypeId). option_map (onto u made) (all_exchanged held (types_tree t ys))) (drop_all xs i le) ∙ ap (λ (y : TypeExprs). Some y) (onto_none u made)

-- ---- unions

pub none_behind : (n : ℕ) (x : Option TypeExpr) (y : Option TypeExprs) → y ≡ None → both (union n) x y ≡ None
none_behind n None y e = refl
none_behind n (Some t) y e = rw e refl

-- the first type is made in m, and the others behind it
pub union_made : (m n : State) (g : Grows m n) (d : IsModule m) (l : ℕ) (first : TypeId) (rest : List TypeId) (x : Option TypeExpr) (y : Option TypeExprs) → first.index < length m.types → x ≡ Some (shown_type m first.index) → y ≡ Some (types_tree (shown_type n) rest)
    → both (union l) x y ≡ Some (union l (shown_type n first.index) (types_tree (shown_type n) rest))
union_made m n g d l first rest x y lt e f = rw (e, f, (type_later m n g d first.index lt).1) refl
