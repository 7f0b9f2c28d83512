-- The trees of types that are there depend on their own trees and names alone.
use Rattle.std.proofs.Common.{◌≡◌, ℕ, ◌<◌, ◌≤◌, List, [], ◌∷◌, ◌++◌, get_or, refl, ap, arith, Option, Some, None}
use Rattle.spec_trees.specs.Stmt.{TypeExpr}
use Rattle.py_tree.specs.declared.ids.TypeId.{TypeId}
use Rattle.py_tree.specs.declared.types.TypeNode.{TypeNode}
use Rattle.py_tree.specs.declared.types.TypeNode.TheVariants as node
use Rattle.py_tree.specs.Types.{types_tree, optional_type, type_tree, AreTypesBelow, IsTypeBelow, AreTypePartsBelow}

-- two ways to give the trees of the first n nodes
module _ (n : ℕ) (f g : ℕ → TypeExpr) (trees : (i : ℕ) → i < n → f i ≡ g i) where
  pub types_same : (xs : List TypeId) → AreTypesBelow n xs → types_tree f xs ≡ types_tree g xs
  types_same [] h = refl
  types_same (x ∷ xs) h = rw (trees x.index h.0, types_same xs h.1) refl

  pub optional_type_same : (x : Option TypeId) → IsTypeBelow n x → optional_type f x ≡ optional_type g x
  optional_type_same None h = refl
  optional_type_same (Some x) h = ap (λ (t : TypeExpr). Some t) (trees x.index h)

-- and two lists of names with the same first k
module _ (k n : ℕ) (ms ns : List (List ℕ)) (f g : ℕ → TypeExpr) (names : (i : ℕ) → i < k → get_or ms i [] ≡ get_or ns i []) (trees : (i : ℕ) → i < n → f i ≡ g i) where
  pub type_tree_same : (x : TypeNode) → AreTypePartsBelow k n x → type_tree ms f x ≡ type_tree ns g x
  type_tree_same (node.Name l x xs) h = rw (names x.index h.0, types_same n f g trees xs.items h.1) refl
  type_tree_same (node.Union l x xs) h = rw (trees x.index h.0, types_same n f g trees xs.items h.1) refl
  type_tree_same (node.None l) h = refl
  type_tree_same (node.Text l p) h = refl

-- parts that are among the first names and nodes are there where more of them are
module _ (a b : ℕ) (le : a ≤ b) where
  pub types_more : (xs : List TypeId) → AreTypesBelow a xs → AreTypesBelow b xs
  types_more [] h = tt
  types_more (x ∷ xs) h = (omega arith, types_more xs h.1)

  pub optional_type_more : (x : Option TypeId) → IsTypeBelow a x → IsTypeBelow b x
  optional_type_more None h = tt
  optional_type_more (Some x) h = omega arith

pub type_parts_more : (j k a b : ℕ) (x : TypeNode) → j ≤ k → a ≤ b → AreTypePartsBelow j a x → AreTypePartsBelow k b x
type_parts_more j k a b (node.Name l x xs) p q h = (omega arith, types_more a b q xs.items h.1)
type_parts_more j k a b (node.Union l x xs) p q h = (omega arith, types_more a b q xs.items h.1)
type_parts_more j k a b (node.None l) p q h = tt
type_parts_more j k a b (node.Text l x) p q h = tt

-- one more part at the end of a list
pub types_push : (n : ℕ) (xs : List TypeId) (x : TypeId) → AreTypesBelow n xs → x.index < n → AreTypesBelow n (xs ++ x ∷ [])
types_push n [] x h p = (p, tt)
types_push n (y ∷ xs) x h p = (h.0, types_push n xs x h.1 p)
