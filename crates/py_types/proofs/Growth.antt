-- What holds while a module grows by names and types.
use Rattle.std.proofs.Common.{◌≡◌, ℕ, ◌<◌, List, [], ◌∷◌, ◌++◌, length, Some, refl, ap, arith, ◌∙◌, slice_get}
use Rattle.std.proofs.lemmas.Option.{get_or_from_slice_get}
use Rattle.spec_trees.specs.Stmt.{TypeExpr, union}
use Rattle.spec_grammar.specs.Types.{union_tree}
use Rattle.py_tree.specs.declared.ids.NameId.{NameId}
use Rattle.py_tree.specs.declared.ids.TypeId.{TypeId}
use Rattle.py_tree.specs.declared.types.TypeNode.{TypeNode}
use Rattle.py_tree.specs.Types.{types_tree}
use Rattle.py_tree.specs.Arena.{State, IsModule}
use Rattle.py_tree.specs.Names.{text_of, with_name}
use Rattle.py_tree.proofs.Arenas.{extends_same, extends_equal, extends_then, extends_type, extends_name}
use Rattle.py_types.specs.Given.{Grows}

pub grows_same : (m : State) → IsModule m → Grows m m
grows_same m d = record { extends = extends_same m; lists = refl; exprs = refl; stmts = refl; tops = refl; valid = d }

pub grows_equal : (m n : State) → n ≡ m → IsModule n → Grows m n
grows_equal m n e d = record {
  extends = extends_equal m n e;
  lists = ap (λ (x : State). x.lists) e;
  exprs = ap (λ (x : State). x.exprs) e;
  stmts = ap (λ (x : State). x.stmts) e;
  tops = ap (λ (x : State). x.tops) e;
  valid = d;
}

pub grows_then : (l m n : State) → Grows l m → Grows m n → Grows l n
grows_then l m n g h = record {
  extends = extends_then l m n g.extends h.extends;
  lists = h.lists ∙ g.lists;
  exprs = h.exprs ∙ g.exprs;
  stmts = h.stmts ∙ g.stmts;
  tops = h.tops ∙ g.tops;
  valid = h.valid;
}

pub grows_type : (m n : State) (x : TypeNode) → n ≡ record m { types = m.types ++ x ∷ [] } → IsModule n → Grows m n
grows_type m n x e d = record {
  extends = extends_type m n x e;
  lists = ap (λ (s : State). s.lists) e;
  exprs = ap (λ (s : State). s.exprs) e;
  stmts = ap (λ (s : State). s.stmts) e;
  tops = ap (λ (s : State). s.tops) e;
  valid = d;
}

pub grows_name : (m n : State) (t : List ℕ) → n ≡ record m { names = with_name m.names t } → IsModule n → Grows m n
grows_name m n t e d = record {
  extends = extends_name m n t e;
  lists = ap (λ (s : State). s.lists) e;
  exprs = ap (λ (s : State). s.exprs) e;
  stmts = ap (λ (s : State). s.stmts) e;
  tops = ap (λ (s : State). s.tops) e;
  valid = d;
}

-- the text of a name that is found
pub text_found : (names : List (List ℕ)) (n : NameId) (t : List ℕ) → slice_get names n.index ≡ Some t → text_of names n ≡ t
text_found names n t e = get_or_from_slice_get names n.index t [] e

-- a type with others behind it is a union
pub more_members : (n : ℕ) (a : TypeExpr) (t : ℕ → TypeExpr) (xs : List TypeId) → 0 < length xs → union_tree n a (types_tree t xs) ≡ union n a (types_tree t xs)
more_members n a t [] lt = absurd (omega arith)
more_members n a t (x ∷ xs) lt = refl
