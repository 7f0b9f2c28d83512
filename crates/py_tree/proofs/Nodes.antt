-- The trees of parts that are there depend on their own trees and names alone.
use Rattle.std.proofs.Common.{◌≡◌, ℕ, ◌<◌, ◌≤◌, List, [], ◌∷◌, ◌++◌, get_or, refl, ap, arith, Option, Some, None}
use Rattle.spec_trees.specs.Expr as tree
use Rattle.spec_trees.specs.Expr.{Expr}
use Rattle.py_tree.specs.declared.ids.NameId.{NameId}
use Rattle.py_tree.specs.declared.ids.ExprId.{ExprId}
use Rattle.py_tree.specs.declared.exprs.Pair.{Pair}
use Rattle.py_tree.specs.declared.exprs.Link.{Link}
use Rattle.py_tree.specs.declared.exprs.Argument.{Argument}
use Rattle.py_tree.specs.declared.exprs.GeneratorNode.{GeneratorNode}
use Rattle.py_tree.specs.declared.exprs.ArgumentsNode.{ArgumentsNode}
use Rattle.py_tree.specs.declared.exprs.ArgumentsNode.TheVariants as arguments
use Rattle.py_tree.specs.declared.exprs.ExprNode.{ExprNode}
use Rattle.py_tree.specs.declared.exprs.ExprNode.TheVariants as node
use Rattle.py_tree.specs.Exprs.{items_tree, pairs_tree, links_tree, bound_tree, name_of, argument_list_tree, generator_tree, arguments_tree, node_tree, AreItemsBelow, ArePairsBelow, AreLinksBelow, IsBoundBelow, IsNameBelow, AreArgumentsBelow, IsGeneratorBelow, IsCallBelow, ArePartsBelow}

-- two ways to give the trees of the first n nodes
module _ (n : ℕ) (f g : ℕ → Expr) (trees : (i : ℕ) → i < n → f i ≡ g i) where
  pub items_same : (xs : List ExprId) → AreItemsBelow n xs → items_tree f xs ≡ items_tree g xs
  items_same [] h = refl
  items_same (x ∷ xs) h = rw (trees x.index h.0, items_same xs h.1) refl

  pub pairs_same : (xs : List Pair) → ArePairsBelow n xs → pairs_tree f xs ≡ pairs_tree g xs
  pairs_same [] h = refl
  pairs_same (x ∷ xs) h = rw (trees x.key.index h.0, trees x.value.index h.1, pairs_same xs h.2) refl

  pub links_same : (xs : List Link) → AreLinksBelow n xs → links_tree f xs ≡ links_tree g xs
  links_same [] h = refl
  links_same (x ∷ xs) h = rw (trees x.operand.index h.0, links_same xs h.1) refl

  pub bound_same : (x : Option ExprId) → IsBoundBelow n x → bound_tree f x ≡ bound_tree g x
  bound_same None h = refl
  bound_same (Some x) h = ap tree.present (trees x.index h)

-- two lists of names with the same first k
module _ (k : ℕ) (ms ns : List (List ℕ)) (names : (i : ℕ) → i < k → get_or ms i [] ≡ get_or ns i []) where
  pub name_same : (x : Option NameId) → IsNameBelow k x → name_of ms x ≡ name_of ns x
  name_same None h = refl
  name_same (Some x) h = ap (λ (t : List ℕ). Some t) (names x.index h)

module _ (k n : ℕ) (ms ns : List (List ℕ)) (f g : ℕ → Expr) (names : (i : ℕ) → i < k → get_or ms i [] ≡ get_or ns i []) (trees : (i : ℕ) → i < n → f i ≡ g i) where
  pub arguments_same : (xs : List Argument) → AreArgumentsBelow k n xs → argument_list_tree ms f xs ≡ argument_list_tree ns g xs
  arguments_same [] h = refl
  arguments_same (x ∷ xs) h = rw (name_same k ms ns names x.name h.0, trees x.value.index h.1, arguments_same xs h.2) refl

  pub generator_same : (x : GeneratorNode) → IsGeneratorBelow k n x → generator_tree ms f x ≡ generator_tree ns g x
  generator_same x h = rw (trees x.element.index h.element, names x.variable.index h.variable, trees x.iterable.index h.iterable, items_same n f g trees x.conditions.items h.conditions) refl

  pub call_same : (x : ArgumentsNode) → IsCallBelow k n x → arguments_tree ms f x ≡ arguments_tree ns g x
  call_same (arguments.Generated x) h = ap tree.generated (generator_same x h)
  call_same (arguments.Listed xs) h = ap tree.listed (arguments_same xs.items h)

  pub tree_same : (x : ExprNode) → ArePartsBelow k n x → node_tree ms f x ≡ node_tree ns g x
  tree_same (node.Name l x) h = rw (names x.index h) refl
  tree_same (node.Integer l v) h = refl
  tree_same (node.Text l p ps) h = refl
  tree_same (node.Truth l v) h = refl
  tree_same (node.None l) h = refl
  tree_same (node.Group l e) h = rw (trees e.index h) refl
  tree_same (node.List l xs) h = rw (items_same n f g trees xs.items h) refl
  tree_same (node.Dict l xs) h = rw (pairs_same n f g trees xs.items h) refl
  tree_same (node.Comprehension l x) h = rw (generator_same x h) refl
  tree_same (node.Attribute l e x) h = rw (trees e.index h.0, names x.index h.1) refl
  tree_same (node.Call l e xs) h = rw (trees e.index h.0, call_same xs h.1) refl
  tree_same (node.Index l e i) h = rw (trees e.index h.0, trees i.index h.1) refl
  tree_same (node.Slice l e i j) h = rw (trees e.index h.0, bound_same n f g trees i h.1, bound_same n f g trees j h.2) refl
  tree_same (node.Prefixed l o e) h = rw (trees e.index h) refl
  tree_same (node.Binary l o d e) h = rw (trees d.index h.0, trees e.index h.1) refl
  tree_same (node.Chain l e xs) h = rw (trees e.index h.0, links_same n f g trees xs.items h.1) refl
  tree_same (node.Choice l e c d) h = rw (trees e.index h.0, trees c.index h.1, trees d.index h.2) refl

-- parts that are among the first names and nodes are there where more of them are
module _ (a b : ℕ) (le : a ≤ b) where
  pub items_more : (xs : List ExprId) → AreItemsBelow a xs → AreItemsBelow b xs
  items_more [] h = tt
  items_more (x ∷ xs) h = (omega arith, items_more xs h.1)

  pub pairs_more : (xs : List Pair) → ArePairsBelow a xs → ArePairsBelow b xs
  pairs_more [] h = tt
  pairs_more (x ∷ xs) h = (omega arith, omega arith, pairs_more xs h.2)

  pub links_more : (xs : List Link) → AreLinksBelow a xs → AreLinksBelow b xs
  links_more [] h = tt
  links_more (x ∷ xs) h = (omega arith, links_more xs h.1)

  pub bound_more : (x : Option ExprId) → IsBoundBelow a x → IsBoundBelow b x
  bound_more None h = tt
  bound_more (Some x) h = omega arith

  pub name_more : (x : Option NameId) → IsNameBelow a x → IsNameBelow b x
  name_more None h = tt
  name_more (Some x) h = omega arith

module _ (j k a b : ℕ) (names : j ≤ k) (nodes : a ≤ b) where
  pub arguments_more : (xs : List Argument) → AreArgumentsBelow j a xs → AreArgumentsBelow k b xs
  arguments_more [] h = tt
  arguments_more (x ∷ xs) h = (name_more j k names x.name h.0, omega arith, arguments_more xs h.2)

  pub generator_more : (x : GeneratorNode) → IsGeneratorBelow j a x → IsGeneratorBelow k b x
  generator_more x h = record { element = omega (arith, h.element); variable = omega (arith, h.variable); iterable = omega (arith, h.iterable); conditions = items_more a b nodes x.conditions.items h.conditions }

  pub call_more : (x : ArgumentsNode) → IsCallBelow j a x → IsCallBelow k b x
  call_more (arguments.Generated x) h = generator_more x h
  call_more (arguments.Listed xs) h = arguments_more xs.items h

-- and so for the parts of a node
pub parts_more : (j k a b : ℕ) (x : ExprNode) → j ≤ k → a ≤ b → ArePartsBelow j a x → ArePartsBelow k b x
parts_more j k a b (node.Name l x) p q h = omega arith
parts_more j k a b (node.Integer l v) p q h = tt
parts_more j k a b (node.Text l x xs) p q h = tt
parts_more j k a b (node.Truth l v) p q h = tt
parts_more j k a b (node.None l) p q h = tt
parts_more j k a b (node.Group l e) p q h = omega arith
parts_more j k a b (node.List l xs) p q h = items_more a b q xs.items h
parts_more j k a b (node.Dict l xs) p q h = pairs_more a b q xs.items h
parts_more j k a b (node.Comprehension l x) p q h = generator_more j k a b p q x h
parts_more j k a b (node.Attribute l e x) p q h = (omega arith, omega arith)
parts_more j k a b (node.Call l e xs) p q h = (omega arith, call_more j k a b p q xs h.1)
parts_more j k a b (node.Index l e i) p q h = (omega arith, omega arith)
parts_more j k a b (node.Slice l e u v) p q h = (omega arith, bound_more a b q u h.1, bound_more a b q v h.2)
parts_more j k a b (node.Prefixed l o e) p q h = omega arith
parts_more j k a b (node.Binary l o d e) p q h = (omega arith, omega arith)
parts_more j k a b (node.Chain l e xs) p q h = (omega arith, links_more a b q xs.items h.1)
parts_more j k a b (node.Choice l e c d) p q h = (omega arith, omega arith, omega arith)

-- one more part at the end of a list
module _ (n : ℕ) where
  pub items_push : (xs : List ExprId) (x : ExprId) → AreItemsBelow n xs → x.index < n → AreItemsBelow n (xs ++ x ∷ [])
  items_push [] x h p = (p, tt)
  items_push (y ∷ xs) x h p = (h.0, items_push xs x h.1 p)

  pub pairs_push : (xs : List Pair) (x : Pair) → ArePairsBelow n xs → x.key.index < n → x.value.index < n → ArePairsBelow n (xs ++ x ∷ [])
  pairs_push [] x h p q = (p, q, tt)
  pairs_push (y ∷ xs) x h p q = (h.0, h.1, pairs_push xs x h.2 p q)

  pub links_push : (xs : List Link) (x : Link) → AreLinksBelow n xs → x.operand.index < n → AreLinksBelow n (xs ++ x ∷ [])
  links_push [] x h p = (p, tt)
  links_push (y ∷ xs) x h p = (h.0, links_push xs x h.1 p)

  pub arguments_push : (k : ℕ) (xs : List Argument) (x : Argument) → AreArgumentsBelow k n xs → IsNameBelow k x.name → x.value.index < n → AreArgumentsBelow k n (xs ++ x ∷ [])
  arguments_push k [] x h p q = (p, q, tt)
  arguments_push k (y ∷ xs) x h p q = (h.0, h.1, arguments_push k xs x h.2 p q)
