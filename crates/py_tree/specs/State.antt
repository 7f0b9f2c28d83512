-- What a module holds, and the trees of its expressions and types.
use Rattle.std.specs.Prelude.{◌≡◌, ℕ, List, [], ◌++◌, length}
use Rattle.spec_trees.specs.Expr as tree
use Rattle.spec_trees.specs.Expr.{Expr}
use Rattle.spec_trees.specs.Stmt as types
use Rattle.spec_trees.specs.Stmt.{TypeExpr}
use Rattle.py_tree.specs.declared.ids.NameId.{NameId}
use Rattle.py_tree.specs.declared.ids.StmtId.{StmtId}
use Rattle.py_tree.specs.declared.exprs.ExprNode.{ExprNode}
use Rattle.py_tree.specs.declared.types.TypeNode.{TypeNode}
use Rattle.py_tree.specs.declared.stmts.StmtNode.{StmtNode}
use Rattle.py_tree.specs.Growing.{grow, tree_in}
use Rattle.py_tree.specs.Exprs.{node_tree, ArePartsBelow}
use Rattle.py_tree.specs.Types.{type_tree, AreTypePartsBelow}

-- what a module holds
pub record State : Type 0 where
  -- each a list of bytes in UTF-8
  pub names : List (List ℕ)
  pub lists : List (List NameId)
  pub exprs : List ExprNode
  pub types : List TypeNode
  pub stmts : List StmtNode
  -- the statements of the module itself
  pub tops : List StmtId

-- the names and the parts of a node of an expression are there
abbrev pub ArePartsThere : State → ExprNode → Type 0
ArePartsThere m node = ArePartsBelow (length m.names) (length m.exprs) node

-- and so for a type
abbrev pub AreTypePartsThere : State → TypeNode → Type 0
AreTypePartsThere m node = AreTypePartsBelow (length m.names) (length m.types) node

-- the tree of the expression at a number
unfoldable pub shown : State → ℕ → Expr
shown m i = tree_in (tree.none 0) (grow (tree.none 0) (node_tree m.names) [] m.exprs) i

-- the tree of the type at a number
unfoldable pub shown_type : State → ℕ → TypeExpr
shown_type m i = tree_in (types.none 0) (grow (types.none 0) (type_tree m.names) [] m.types) i

-- all that was there stands, and more behind it
pub record Extends (m n : State) : Type 0 where
  pub more_names : List (List ℕ)
  pub names : n.names ≡ m.names ++ more_names
  pub more_lists : List (List NameId)
  pub lists : n.lists ≡ m.lists ++ more_lists
  pub more_exprs : List ExprNode
  pub exprs : n.exprs ≡ m.exprs ++ more_exprs
  pub more_types : List TypeNode
  pub types : n.types ≡ m.types ++ more_types
  pub more_stmts : List StmtNode
  pub stmts : n.stmts ≡ m.stmts ++ more_stmts
  pub more_tops : List StmtId
  pub tops : n.tops ≡ m.tops ++ more_tops
