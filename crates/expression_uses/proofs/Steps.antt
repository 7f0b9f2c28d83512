-- What is told of the parts of expressions, one after the other.
use Rattle.std.proofs.Common.{◌≡◌, List, ◌∷◌, ◌++◌, refl}
use Rattle.spec_names.specs.declared.Refusal.{Refusal}
use Rattle.spec_uses.specs.declared.Place.TheVariants.{Read}
use Rattle.spec_uses.specs.Meanings.{Scope}
use Rattle.spec_uses.specs.Expressions.{uses, uses_in, uses_in_links, uses_in_pairs, uses_in_rest}
use Rattle.py_tree.specs.declared.ids.ExprId.{ExprId}
use Rattle.py_tree.specs.declared.exprs.Argument.{Argument}
use Rattle.py_tree.specs.declared.exprs.Link.{Link}
use Rattle.py_tree.specs.declared.exprs.Pair.{Pair}
use Rattle.py_tree.specs.Arena.{State, shown}
use Rattle.py_tree.specs.Exprs.{argument_list_tree, items_tree, links_tree, pairs_tree}

module _ (m : State) where
  abbrev pub of_items : List ExprId → Scope → List Refusal
  of_items xs s = uses_in s (items_tree (shown m) xs)

  abbrev pub of_item : ExprId → Scope → List Refusal
  of_item x s = uses Read s (shown m x.index)

  pub items_step : (x : ExprId) (xs : List ExprId) (s : Scope) → of_items (x ∷ xs) s ≡ of_item x s ++ of_items xs s
  items_step x xs s = refl

  abbrev pub of_pairs : List Pair → Scope → List Refusal
  of_pairs xs s = uses_in_pairs s (pairs_tree (shown m) xs)

  abbrev pub of_pair : Pair → Scope → List Refusal
  of_pair x s = uses Read s (shown m x.key.index) ++ uses Read s (shown m x.value.index)

  pub pairs_step : (x : Pair) (xs : List Pair) (s : Scope) → of_pairs (x ∷ xs) s ≡ of_pair x s ++ of_pairs xs s
  pairs_step x xs s = refl

  abbrev pub of_links : List Link → Scope → List Refusal
  of_links xs s = uses_in_links s (links_tree (shown m) xs)

  abbrev pub of_link : Link → Scope → List Refusal
  of_link x s = uses Read s (shown m x.operand.index)

  pub links_step : (x : Link) (xs : List Link) (s : Scope) → of_links (x ∷ xs) s ≡ of_link x s ++ of_links xs s
  links_step x xs s = refl

  abbrev pub of_rest : List Argument → Scope → List Refusal
  of_rest xs s = uses_in_rest s (argument_list_tree m.names (shown m) xs)

  abbrev pub of_argument : Argument → Scope → List Refusal
  of_argument x s = uses Read s (shown m x.value.index)

  pub rest_step : (x : Argument) (xs : List Argument) (s : Scope) → of_rest (x ∷ xs) s ≡ of_argument x s ++ of_rest xs s
  rest_step x xs s = refl
