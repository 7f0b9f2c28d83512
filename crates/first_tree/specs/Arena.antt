-- The tree of each node of an arena.
use Rattle.std.specs.Prelude.{◌≡◌, ◌<◌, ℕ, ◌+◌, List, [], ◌∷◌, ◌++◌, All, slice_index_or}
use Rattle.spec_first_trees.specs.Expr as tree
use Rattle.spec_first_trees.specs.Expr.{Expr}
use Rattle.first_tree.specs.declared.nodes.ExprNode.{ExprNode}
use Rattle.first_tree.specs.declared.nodes.ExprNode.TheVariants as node
use Rattle.first_tree.specs.declared.nodes.ExprId.{ExprId}
use Rattle.first_tree.specs.declared.nodes.Post.{Post}
use Rattle.first_tree.specs.declared.nodes.FnNode.{FnNode}

-- the tree of a node, where t gives those of its parts
abbrev pub node_tree : (ℕ → Expr) → ExprNode → Expr
node_tree t (node.Name x n) = tree.name x
node_tree t (node.Int v n) = tree.integer v
node_tree t (node.Binary op a b n) = tree.binary op (t a.index) (t b.index)
node_tree t (node.Compare op a b n) = tree.compare op (t a.index) (t b.index)
node_tree t (node.Group a n) = tree.group (t a.index)

-- the parts of a node are among the first n nodes
abbrev pub ArePartsBelow : ℕ → ExprNode → Type 0
ArePartsBelow n (node.Name x l) = Unit {0}
ArePartsBelow n (node.Int v l) = Unit {0}
ArePartsBelow n (node.Binary op a b l) = (a.index < n) × (b.index < n)
ArePartsBelow n (node.Compare op a b l) = (a.index < n) × (b.index < n)
ArePartsBelow n (node.Group a l) = a.index < n

-- the parts of each node are earlier nodes; the first one has n nodes before it
abbrev pub AreFrom : ℕ → List ExprNode → Type 0
AreFrom n [] = Unit {0}
AreFrom n (x ∷ xs) = ArePartsBelow n x × AreFrom (n + 1) xs

abbrev pub IsArena : List ExprNode → Type 0
IsArena nodes = AreFrom 0 nodes

abbrev pub AreExprsBelow : ℕ → List ExprId → Type 0
AreExprsBelow n es = All (λ (e : ExprId). e.index < n) es

abbrev pub ArePostsBelow : ℕ → List Post → Type 0
ArePostsBelow n ps = All (λ (p : Post). p.expr.index < n) ps

-- the expressions of a function are among the first n nodes
pub record IsFunctionBelow (n : ℕ) (f : FnNode) : Type 0 where
  pub preconditions : AreExprsBelow n f.preconditions.items
  pub posts : ArePostsBelow n f.posts.items
  pub values : AreExprsBelow n f.values.items

abbrev pub AreFunctionsBelow : ℕ → List FnNode → Type 0
AreFunctionsBelow n [] = Unit {0}
AreFunctionsBelow n (f ∷ fs) = IsFunctionBelow n f × AreFunctionsBelow n fs

-- what a module holds
pub record ModuleState : Type 0 where
  pub nodes : List ExprNode
  pub functions : List FnNode

abbrev pub tree_in : List Expr → ℕ → Expr
tree_in ts i = slice_index_or ts i (tree.integer 0)

-- the trees of nodes behind others with the trees ts
abbrev pub grow : List Expr → List ExprNode → List Expr
grow ts [] = ts
grow ts (n ∷ ns) = grow (ts ++ node_tree (tree_in ts) n ∷ []) ns

-- the tree of the node at a place
unfoldable pub shown : List ExprNode → ℕ → Expr
shown nodes i = tree_in (grow [] nodes) i

-- the nodes that were there stand, and more behind them
pub record Extends (old new : List ExprNode) : Type 0 where
  pub more : List ExprNode
  pub is : new ≡ old ++ more
