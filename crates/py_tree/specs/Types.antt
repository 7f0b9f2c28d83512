-- The tree of a node of a type, from the names and the trees of its parts.
use Rattle.std.specs.Prelude.{◌<◌, ℕ, List, [], ◌∷◌, Option, Some, None}
use Rattle.spec_trees.specs.Stmt as tree
use Rattle.spec_trees.specs.Stmt.{TypeExpr, TypeExprs}
use Rattle.py_tree.specs.declared.ids.TypeId.{TypeId}
use Rattle.py_tree.specs.declared.types.TypeNode.{TypeNode}
use Rattle.py_tree.specs.declared.types.TypeNode.TheVariants as node
use Rattle.py_tree.specs.Names.{text_of}
use Rattle.py_tree.specs.Exprs.{part_tree}

module _ (t : ℕ → TypeExpr) where
  abbrev pub types_tree : List TypeId → TypeExprs
  types_tree [] = tree.no_types
  types_tree (x ∷ xs) = tree.type_item (t x.index) (types_tree xs)

  abbrev pub optional_type : Option TypeId → Option TypeExpr
  optional_type None = None
  optional_type (Some x) = Some (t x.index)

module _ (names : List (List ℕ)) (t : ℕ → TypeExpr) where
  -- the tree of a node, where t gives those of its parts
  abbrev pub type_tree : TypeNode → TypeExpr
  type_tree (node.Name l n xs) = tree.name l (text_of names n) (types_tree t xs.items)
  type_tree (node.Union l x xs) = tree.union l (t x.index) (types_tree t xs.items)
  type_tree (node.None l) = tree.none l
  type_tree (node.Text l p) = tree.string l (part_tree p)

-- types are among the first n nodes
module _ (n : ℕ) where
  abbrev pub AreTypesBelow : List TypeId → Type 0
  AreTypesBelow [] = Unit {0}
  AreTypesBelow (x ∷ xs) = (x.index < n) × AreTypesBelow xs

  abbrev pub IsTypeBelow : Option TypeId → Type 0
  IsTypeBelow None = Unit {0}
  IsTypeBelow (Some x) = x.index < n

-- the parts of a node: its name is among the first k, and its types are among the first n nodes
abbrev pub AreTypePartsBelow : ℕ → ℕ → TypeNode → Type 0
AreTypePartsBelow k n (node.Name l x xs) = (x.index < k) × AreTypesBelow n xs.items
AreTypePartsBelow k n (node.Union l x xs) = (x.index < n) × AreTypesBelow n xs.items
AreTypePartsBelow k n (node.None l) = Unit {0}
AreTypePartsBelow k n (node.Text l p) = Unit {0}
