-- Numbers above all statements of blocks.
use Rattle.std.proofs.Common.{ℕ, zero, suc, ◌<◌, ◌≤◌, max, List, [], ◌∷◌, length, get_or, arith}
use Rattle.py_tree.proofs.StmtNodes.{stmts_more}
use Rattle.py_tree.specs.Arena.{State}
use Rattle.py_tree.specs.Stmts.{AreBranchesBelow, AreHandlersBelow, AreStmtsBelow}
use Rattle.py_tree.specs.declared.ids.StmtId.{StmtId}
use Rattle.py_tree.specs.declared.stmts.BranchNode.{BranchNode}
use Rattle.py_tree.specs.declared.stmts.HandlerNode.{HandlerNode}

abbrev pub above : List StmtId → ℕ
above [] = 0
above (s ∷ ss) = max (suc s.index) (above ss)

abbrev pub above_branches : List BranchNode → ℕ
above_branches [] = 0
above_branches (b ∷ bs) = max (above b.body.items) (above_branches bs)

abbrev pub above_handlers : List HandlerNode → ℕ
above_handlers [] = 0
above_handlers (h ∷ hs) = max (above h.body.items) (above_handlers hs)

pub above_least : (n : ℕ) (xs : List StmtId) → AreStmtsBelow n xs → above xs ≤ n
above_least n [] h = omega arith
above_least n (x ∷ xs) h = let rest = above_least n xs h.1 in omega (arith, h.0, rest)

pub branches_least : (m : State) (n : ℕ) (xs : List BranchNode) → AreBranchesBelow m n xs → above_branches xs ≤ n
branches_least m n [] h = omega arith
branches_least m n (x ∷ xs) h = let here = above_least n x.body.items h.1 in let rest = branches_least m n xs h.2 in omega (arith, here, rest)

pub handlers_least : (m : State) (n : ℕ) (xs : List HandlerNode) → AreHandlersBelow m n xs → above_handlers xs ≤ n
handlers_least m n [] h = omega arith
handlers_least m n (x ∷ xs) h = let here = above_least n x.body.items h.1 in let rest = handlers_least m n xs h.2 in omega (arith, here, rest)

-- ---- one of several

pub stmt_above : (xs : List StmtId) (i : ℕ) (d : StmtId) → i < length xs → (get_or xs i d).index < above xs
stmt_above [] i d lt = absurd (omega arith)
stmt_above (x ∷ xs) zero d lt = omega arith
stmt_above (x ∷ xs) (suc i) d lt = let rest = stmt_above xs i d (omega arith) in omega (arith, rest)

pub branch_above : (xs : List BranchNode) (i : ℕ) (d : BranchNode) → i < length xs → above (get_or xs i d).body.items ≤ above_branches xs
branch_above [] i d lt = absurd (omega arith)
branch_above (x ∷ xs) zero d lt = omega arith
branch_above (x ∷ xs) (suc i) d lt = let rest = branch_above xs i d (omega arith) in omega (arith, rest)

pub handler_above : (xs : List HandlerNode) (i : ℕ) (d : HandlerNode) → i < length xs → above (get_or xs i d).body.items ≤ above_handlers xs
handler_above [] i d lt = absurd (omega arith)
handler_above (x ∷ xs) zero d lt = omega arith
handler_above (x ∷ xs) (suc i) d lt = let rest = handler_above xs i d (omega arith) in omega (arith, rest)

-- ---- blocks that are there

pub stmt_there : (n : ℕ) (xs : List StmtId) (i : ℕ) (d : StmtId) → AreStmtsBelow n xs → i < length xs → (get_or xs i d).index < n
stmt_there n [] i d h lt = absurd (omega arith)
stmt_there n (x ∷ xs) zero d h lt = h.0
stmt_there n (x ∷ xs) (suc i) d h lt = stmt_there n xs i d h.1 (omega arith)

pub branch_there : (m : State) (n : ℕ) (xs : List BranchNode) (i : ℕ) (d : BranchNode) → AreBranchesBelow m n xs → i < length xs → AreStmtsBelow n (get_or xs i d).body.items
branch_there m n [] i d h lt = absurd (omega arith)
branch_there m n (x ∷ xs) zero d h lt = h.1
branch_there m n (x ∷ xs) (suc i) d h lt = branch_there m n xs i d h.2 (omega arith)

pub handler_there : (m : State) (n : ℕ) (xs : List HandlerNode) (i : ℕ) (d : HandlerNode) → AreHandlersBelow m n xs → i < length xs → AreStmtsBelow n (get_or xs i d).body.items
handler_there m n [] i d h lt = absurd (omega arith)
handler_there m n (x ∷ xs) zero d h lt = h.1
handler_there m n (x ∷ xs) (suc i) d h lt = handler_there m n xs i d h.2 (omega arith)

module _ (m : State) (a b : ℕ) (le : a ≤ b) where
  pub branches_up : (xs : List BranchNode) → AreBranchesBelow m a xs → AreBranchesBelow m b xs
  branches_up [] h = tt
  branches_up (x ∷ xs) h = (h.0, stmts_more a b le x.body.items h.1, branches_up xs h.2)

  pub handlers_up : (xs : List HandlerNode) → AreHandlersBelow m a xs → AreHandlersBelow m b xs
  handlers_up [] h = tt
  handlers_up (x ∷ xs) h = (h.0, stmts_more a b le x.body.items h.1, handlers_up xs h.2)

-- the defaults of reads, which are never seen
abbrev pub no_statement : StmtId
no_statement = record { index = 0 }
