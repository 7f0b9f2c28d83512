-- What a few nodes are no part of.
use Rattle.std.proofs.Common.{◌≡◌, ℕ, ◌≤◌, ◌==◌, false, List, [], ◌∷◌, length, None, refl, arith}
use Rattle.spec_trees.specs.Expr.{Expr}
use Rattle.spec_trees.specs.Module as tree
use Rattle.spec_trees.specs.Module.{Statement}
use Rattle.spec_names.specs.Members.{is_main_link, member_of}
use Rattle.py_tree.specs.declared.exprs.Link.{Link}
use Rattle.py_tree.specs.declared.stmts.BranchNode.{BranchNode}
use Rattle.py_tree.specs.declared.ids.StmtId.{StmtId}
use Rattle.py_tree.specs.Arena.{State}
use Rattle.py_tree.specs.Exprs.{links_tree}
use Rattle.py_tree.specs.Stmts.{block_tree, branches_tree}

-- the main test compares once
pub many_links : (t : ℕ → Expr) (ls : List Link) → 2 ≤ length ls → is_main_link (links_tree t ls) ≡ false
many_links t [] le = absurd (omega arith)
many_links t (x ∷ []) le = absurd (omega arith)
many_links t (x ∷ y ∷ ls) le = refl

module _ (m : State) (t : ℕ → Statement) (n : ℕ) (c : Expr) (b : tree.Block) where
  -- and has neither `elif`
  pub no_branches : (bs : List BranchNode) (d : List StmtId) → (length bs == 0) ≡ false → member_of (tree.if n c b (branches_tree m t bs) (block_tree t d)) ≡ None
  no_branches [] d e = absurd cc
  no_branches (x ∷ bs) d e = refl

  -- nor `else`
  pub no_otherwise : (bs : List BranchNode) (d : List StmtId) → (length d == 0) ≡ false → member_of (tree.if n c b (branches_tree m t bs) (block_tree t d)) ≡ None
  no_otherwise bs [] e = absurd cc
  no_otherwise [] (s ∷ d) e = refl
  no_otherwise (x ∷ bs) (s ∷ d) e = refl
