-- The uses in the parts of statements, one after the other.
use Rattle.std.proofs.Common.{◌≡◌, ◌<◌, ℕ, zero, suc, List, [], ◌∷◌, ◌++◌, length, get_or, map, Vec, Global, refl, arith}
use Rattle.spec_trees.specs.Module.{Statement}
use Rattle.spec_names.specs.declared.Refusal.{Refusal}
use Rattle.spec_uses.specs.declared.Place.TheVariants.{Read}
use Rattle.spec_uses.specs.Expressions.{raised_as, uses}
use Rattle.spec_uses.specs.Meanings.{Scope}
use Rattle.spec_uses.specs.Statements.{uses_in_block, uses_in_branches, uses_in_classes, uses_in_handlers, uses_in_statement}
use Rattle.py_tree.specs.declared.ids.ExprId.{ExprId}
use Rattle.py_tree.specs.declared.ids.NameId.{NameId}
use Rattle.py_tree.specs.declared.ids.StmtId.{StmtId}
use Rattle.py_tree.specs.declared.stmts.BranchNode.{BranchNode}
use Rattle.py_tree.specs.declared.stmts.HandlerNode.{HandlerNode}
use Rattle.py_tree.specs.declared.stmts.StmtNode.{StmtNode}
use Rattle.py_tree.specs.declared.stmts.StmtNode.TheVariants as node
use Rattle.py_tree.specs.Arena.{State, shown, shown_stmt}
use Rattle.py_tree.specs.Names.{text_of}
use Rattle.py_tree.specs.Stmts.{AreBranchesBelow, AreHandlersBelow, block_tree, branches_tree, handlers_tree, stmt_tree, texts_of}
use Rattle.statement_uses.specs.Lines.{uses_in_line}

module _ (names : List (List ℕ)) (line : ℕ) where
  abbrev pub of_classes : List NameId → Scope → List Refusal
  of_classes xs s = uses_in_classes s line (map (text_of names) xs)

  abbrev pub of_class : NameId → Scope → List Refusal
  of_class x s = raised_as (s.meaning (text_of names x)) line

  pub classes_step : (x : NameId) (xs : List NameId) (s : Scope) → of_classes (x ∷ xs) s ≡ of_class x s ++ of_classes xs s
  classes_step x xs s = refl

module _ (m : State) where
  abbrev pub of_block : List StmtId → Scope → List Refusal
  of_block xs s = uses_in_block s (block_tree (shown_stmt m) xs)

  abbrev pub of_statement : StmtId → Scope → List Refusal
  of_statement x s = uses_in_statement s (shown_stmt m x.index)

  pub block_step : (x : StmtId) (xs : List StmtId) (s : Scope) → of_block (x ∷ xs) s ≡ of_statement x s ++ of_block xs s
  block_step x xs s = refl

  abbrev pub of_branches : List BranchNode → Scope → List Refusal
  of_branches bs s = uses_in_branches s (branches_tree m (shown_stmt m) bs)

  abbrev pub of_branch : BranchNode → Scope → List Refusal
  of_branch b s = uses Read s (shown m b.condition.index) ++ of_block b.body.items s

  pub branches_step : (b : BranchNode) (bs : List BranchNode) (s : Scope) → of_branches (b ∷ bs) s ≡ of_branch b s ++ of_branches bs s
  branches_step b bs s = refl

  abbrev pub of_handlers : List HandlerNode → Scope → List Refusal
  of_handlers hs s = uses_in_handlers s (handlers_tree m (shown_stmt m) hs)

  abbrev pub of_handler : HandlerNode → Scope → List Refusal
  of_handler h s = uses_in_classes s h.line (texts_of m h.classes) ++ of_block h.body.items s

  pub handlers_step : (h : HandlerNode) (hs : List HandlerNode) (s : Scope) → of_handlers (h ∷ hs) s ≡ of_handler h s ++ of_handlers hs s
  handlers_step h hs s = refl

-- ---- the parts of branches and handlers that are there

module _ (m : State) (n : ℕ) where
  pub branch_condition_there : (xs : List BranchNode) (i : ℕ) (d : BranchNode) → AreBranchesBelow m n xs → i < length xs → (get_or xs i d).condition.index < length m.exprs
  branch_condition_there [] i d h lt = absurd (omega arith)
  branch_condition_there (x ∷ xs) zero d h lt = h.0
  branch_condition_there (x ∷ xs) (suc i) d h lt = branch_condition_there xs i d h.2 (omega arith)

  pub handler_classes_there : (xs : List HandlerNode) (i : ℕ) (d : HandlerNode) → AreHandlersBelow m n xs → i < length xs → (get_or xs i d).classes.index < length m.lists
  handler_classes_there [] i d h lt = absurd (omega arith)
  handler_classes_there (x ∷ xs) zero d h lt = h.0
  handler_classes_there (x ∷ xs) (suc i) d h lt = handler_classes_there xs i d h.2 (omega arith)

-- ---- statements with no block

module _ (m : State) (t : ℕ → Statement) (s : Scope) where
  -- a statement that is none of these is told of as a line
  pub line_is : (x : StmtNode)
      → ((l : ℕ) (c : ExprId) (b : Vec StmtId Global) (bs : Vec BranchNode Global) (d : Vec StmtId Global) → x ≡ node.If l c b bs d → ⊥)
      → ((l : ℕ) (c : ExprId) (b d : Vec StmtId Global) → x ≡ node.While l c b d → ⊥)
      → ((l : ℕ) (n : NameId) (e : ExprId) (b d : Vec StmtId Global) → x ≡ node.For l n e b d → ⊥)
      → ((l : ℕ) (b : Vec StmtId Global) (hs : Vec HandlerNode Global) (d : Vec StmtId Global) → x ≡ node.Try l b hs d → ⊥)
      → uses_in_line s (stmt_tree m t x) ≡ uses_in_statement s (stmt_tree m t x)
  line_is (node.Assign l d e) no_if no_while no_for no_try = refl
  line_is (node.Annotate l d a e) no_if no_while no_for no_try = refl
  line_is (node.Augment l d o e) no_if no_while no_for no_try = refl
  line_is (node.Evaluate l e) no_if no_while no_for no_try = refl
  line_is (node.Return l e) no_if no_while no_for no_try = refl
  line_is (node.Pass l) no_if no_while no_for no_try = refl
  line_is (node.Break l) no_if no_while no_for no_try = refl
  line_is (node.Continue l) no_if no_while no_for no_try = refl
  line_is (node.Assert l c e) no_if no_while no_for no_try = refl
  line_is (node.Reraise l) no_if no_while no_for no_try = refl
  line_is (node.Raise l n xs) no_if no_while no_for no_try = refl
  line_is (node.Delete l e) no_if no_while no_for no_try = refl
  line_is (node.Import l p) no_if no_while no_for no_try = refl
  line_is (node.ImportFrom l n ns) no_if no_while no_for no_try = refl
  line_is (node.Def l k n ps r b) no_if no_while no_for no_try = refl
  line_is (node.Class l k n b) no_if no_while no_for no_try = refl
  line_is (node.If l c b bs d) no_if no_while no_for no_try = absurd (no_if l c b bs d refl)
  line_is (node.While l c b d) no_if no_while no_for no_try = absurd (no_while l c b d refl)
  line_is (node.For l n e b d) no_if no_while no_for no_try = absurd (no_for l n e b d refl)
  line_is (node.Try l b hs d) no_if no_while no_for no_try = absurd (no_try l b hs d refl)

-- the default of reads, which is never seen
abbrev pub no_name : NameId
no_name = record { index = 0 }
