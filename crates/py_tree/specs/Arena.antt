-- The trees of a module, and what holds of every module.
pub use Rattle.py_tree.specs.State.{State, ArePartsThere, AreTypePartsThere, Extends}
unfoldable pub use Rattle.py_tree.specs.State.{shown, shown_type}
use Rattle.std.specs.Prelude.{ℕ, [], length}
use Rattle.spec_trees.specs.Stmt as simple
use Rattle.spec_trees.specs.Module as tree
use Rattle.spec_trees.specs.Module.{Statement}
use Rattle.py_tree.specs.Growing.{grow, tree_in, AreFrom}
use Rattle.py_tree.specs.Names.{AreDistinct, AreListsBelow}
use Rattle.py_tree.specs.Exprs.{ArePartsBelow}
use Rattle.py_tree.specs.Types.{AreTypePartsBelow}
use Rattle.py_tree.specs.Stmts.{stmt_tree, block_tree, AreStmtPartsBelow, AreStmtsBelow}

-- the tree of the statement at a number
unfoldable pub shown_stmt : State → ℕ → Statement
shown_stmt m i = tree_in (tree.simple (simple.pass 0)) (grow (tree.simple (simple.pass 0)) (stmt_tree m) [] m.stmts) i

-- the tree of the module
abbrev pub module_tree : State → tree.Module
module_tree m = record { body = block_tree (shown_stmt m) m.tops }

-- what holds of every module
pub record IsModule (m : State) : Type 0 where
  -- no two names have one text
  pub distinct : AreDistinct m.names
  pub lists : AreListsBelow (length m.names) m.lists
  -- the parts of each node are earlier ones
  pub exprs : AreFrom (ArePartsBelow (length m.names)) 0 m.exprs
  pub types : AreFrom (AreTypePartsBelow (length m.names)) 0 m.types
  pub stmts : AreFrom (AreStmtPartsBelow m) 0 m.stmts
  pub tops : AreStmtsBelow (length m.stmts) m.tops
