-- Expressions whose parts are read.
use Rattle.std.proofs.Common.{◌≡◌, ◌∙◌, ℕ, List, ◌++◌, append-nil, refl, sym, ap}
use Rattle.std.proofs.lemmas.List.{append_assoc}
use Rattle.spec_trees.specs.Expr.{Expr}
use Rattle.spec_names.specs.declared.Refusal.{Refusal}
use Rattle.spec_uses.specs.declared.Place.{Place}
use Rattle.spec_uses.specs.declared.Place.TheVariants.{Read}
use Rattle.spec_uses.specs.Meanings.{Scope}
use Rattle.spec_uses.specs.Expressions.{unless_called, uses, uses_in_bound, uses_in_links}
use Rattle.py_tree.specs.declared.ids.ExprId.{ExprId}
use Rattle.py_tree.specs.declared.ids.NameId.{NameId}
use Rattle.py_tree.specs.declared.exprs.ArgumentsNode.{ArgumentsNode}
use Rattle.py_tree.specs.declared.exprs.ExprNode.{ExprNode}
use Rattle.py_tree.specs.declared.exprs.ExprNode.TheVariants as node
use Rattle.py_tree.specs.Exprs.{bound_tree, links_tree, node_tree}
use Rattle.expression_uses.specs.Parts.{uses_in_parts}

module _ (names : List (List ℕ)) (t : ℕ → Expr) (p : Place) (s : Scope) where
  pub with_parts : (x : ExprNode) → ((l : ℕ) (n : NameId) → x ≡ node.Name l n → ⊥) → ((l : ℕ) (e : ExprId) → x ≡ node.Group l e → ⊥) → ((l : ℕ) (e : ExprId) (n : NameId) → x ≡ node.Attribute l e n → ⊥)
      → ((l : ℕ) (e : ExprId) (a : ArgumentsNode) → x ≡ node.Call l e a → ⊥) → unless_called p ++ uses_in_parts s (node_tree names t x) ≡ uses p s (node_tree names t x)
  with_parts (node.Name l n) f g h k = absurd (f l n refl)
  with_parts (node.Integer l v) f g h k = append-nil (unless_called p)
  with_parts (node.Text l x xs) f g h k = append-nil (unless_called p)
  with_parts (node.Truth l v) f g h k = append-nil (unless_called p)
  with_parts (node.None l) f g h k = append-nil (unless_called p)
  with_parts (node.Group l e) f g h k = absurd (g l e refl)
  with_parts (node.List l xs) f g h k = refl
  with_parts (node.Dict l xs) f g h k = refl
  with_parts (node.Comprehension l x) f g h k = refl
  with_parts (node.Attribute l e n) f g h k = absurd (h l e n refl)
  with_parts (node.Call l e xs) f g h k = absurd (k l e xs refl)
  with_parts (node.Index l e i) f g h k = sym (append_assoc (unless_called p) (uses Read s (t e.index)) (uses Read s (t i.index)))
  with_parts (node.Slice l e i j) f g h k = sym (append_assoc (unless_called p) (uses Read s (t e.index) ++ uses_in_bound s (bound_tree t i)) (uses_in_bound s (bound_tree t j))) ∙ ap (λ (v : List Refusal). v ++ uses_in_bound s (bound_tree t j)) (sym (append_assoc (unless_called p) (uses Read s (t e.index)) (uses_in_bound s (bound_tree t i))))
  with_parts (node.Prefixed l o e) f g h k = refl
  with_parts (node.Binary l o d e) f g h k = sym (append_assoc (unless_called p) (uses Read s (t d.index)) (uses Read s (t e.index)))
  with_parts (node.Chain l e xs) f g h k = sym (append_assoc (unless_called p) (uses Read s (t e.index)) (uses_in_links s (links_tree t xs.items)))
  with_parts (node.Choice l e c d) f g h k = sym (append_assoc (unless_called p) (uses Read s (t e.index) ++ uses Read s (t c.index)) (uses Read s (t d.index))) ∙ ap (λ (v : List Refusal). v ++ uses Read s (t d.index)) (sym (append_assoc (unless_called p) (uses Read s (t e.index)) (uses Read s (t c.index))))
