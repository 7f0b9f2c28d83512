-- What holds while a module grows by names and expressions.
use Rattle.std.proofs.Common.{◌≡◌, ℕ, ◌<◌, ◌≤◌, List, [], ◌∷◌, ◌++◌, length, Option, Some, None, refl, sym, ap, subst, arith, ◌∙◌, slice_get}
use Rattle.std.proofs.lemmas.Option.{get_or_from_slice_get}
use Rattle.spec_trees.specs.Expr.{Expr, chain}
use Rattle.spec_grammar.specs.Grammar.{joined_tree}
use Rattle.py_tree.specs.declared.exprs.Link.{Link}
use Rattle.py_tree.specs.Exprs.{links_tree}
use Rattle.py_tree.specs.declared.exprs.ExprNode.{ExprNode}
use Rattle.py_tree.specs.declared.ids.NameId.{NameId}
use Rattle.py_tree.specs.Arena.{State, Extends, IsModule, shown}
use Rattle.py_tree.specs.Names.{text_of, with_name}
use Rattle.py_tree.proofs.Arenas.{extends_same, extends_equal, extends_then, extends_expr, extends_name, names_grow, exprs_grow, shown_kept}
use Rattle.py_expressions.specs.Given.{Grows}

pub grows_same : (m : State) → IsModule m → Grows m m
grows_same m d = record { extends = extends_same m; lists = refl; types = refl; stmts = refl; tops = refl; valid = d }

pub grows_equal : (m n : State) → n ≡ m → IsModule n → Grows m n
grows_equal m n e d = record {
  extends = extends_equal m n e;
  lists = ap (λ (x : State). x.lists) e;
  types = ap (λ (x : State). x.types) e;
  stmts = ap (λ (x : State). x.stmts) e;
  tops = ap (λ (x : State). x.tops) e;
  valid = d;
}

pub grows_then : (l m n : State) → Grows l m → Grows m n → Grows l n
grows_then l m n g h = record {
  extends = extends_then l m n g.extends h.extends;
  lists = h.lists ∙ g.lists;
  types = h.types ∙ g.types;
  stmts = h.stmts ∙ g.stmts;
  tops = h.tops ∙ g.tops;
  valid = h.valid;
}

pub grows_expr : (m n : State) (x : ExprNode) → n ≡ record m { exprs = m.exprs ++ x ∷ [] } → IsModule n → Grows m n
grows_expr m n x e d = record {
  extends = extends_expr m n x e;
  lists = ap (λ (s : State). s.lists) e;
  types = ap (λ (s : State). s.types) e;
  stmts = ap (λ (s : State). s.stmts) e;
  tops = ap (λ (s : State). s.tops) e;
  valid = d;
}

pub grows_name : (m n : State) (t : List ℕ) → n ≡ record m { names = with_name m.names t } → IsModule n → Grows m n
grows_name m n t e d = record {
  extends = extends_name m n t e;
  lists = ap (λ (s : State). s.lists) e;
  types = ap (λ (s : State). s.types) e;
  stmts = ap (λ (s : State). s.stmts) e;
  tops = ap (λ (s : State). s.tops) e;
  valid = d;
}

-- the text of a name that is found
pub text_found : (names : List (List ℕ)) (n : NameId) (t : List ℕ) → slice_get names n.index ≡ Some t → text_of names n ≡ t
text_found names n t e = get_or_from_slice_get names n.index t [] e

-- an operand with links behind it is a chain
pub more_links : (n : ℕ) (a : Expr) (t : ℕ → Expr) (xs : List Link) → 0 < length xs → joined_tree n a (links_tree t xs) ≡ chain n a (links_tree t xs)
more_links n a t [] lt = absurd (omega arith)
more_links n a t (x ∷ xs) lt = refl
