-- What building answers, beside what the definition reads.
use Rattle.std.specs.Prelude.{◌≡◌, ℕ, ◌<◌, List, length, drop, Option, Some, Result, Ok, Err}
use Rattle.std.specs.Global.{Vec}
use Rattle.spec_trees.specs.Expr.{Expr}
use Rattle.spec_trees.specs.Module as tree
use Rattle.spec_trees.specs.Module.{Statement, Block, Branches, Handlers}
use Rattle.spec_grammar.specs.Reading.{◌>>=◌}
use Rattle.spec_grammar.specs.Blocks.{PlacedLine}
use Rattle.spec_grammar.specs.BlockReading.{ParseLines, branches_with, else_with}
use Rattle.py_tree.specs.declared.ids.StmtId.{StmtId}
use Rattle.py_tree.specs.declared.stmts.BranchNode.{BranchNode}
use Rattle.py_tree.specs.declared.stmts.HandlerNode.{HandlerNode}
use Rattle.py_tree.specs.Arena.{State, shown_stmt}
use Rattle.py_tree.specs.Stmts.{block_tree, branches_tree, handlers_tree, AreStmtsBelow, AreBranchesBelow, AreHandlersBelow}
use Rattle.py_words.specs.declared.unread.Unread.{Unread}
use Rattle.py_words.specs.Found.{Fails}
use Rattle.py_placed.specs.declared.placed.PlacedLine as placed
use Rattle.py_placed.specs.Placed.{ArePlaced}

-- lines that stand for some lines of a module
abbrev pub AreThere : State → List placed.PlacedLine → Type 0
AreThere m xs = (ps : List PlacedLine) × ArePlaced m xs ps

-- The answers of building from the lines s: what is built is there, its tree is the one that the definition reads, and the
-- place behind it is that of the lines that follow.

abbrev pub GivesStatement : State → List PlacedLine → Result (StmtId × ℕ) Unread → Option (Statement × List PlacedLine) → Type 0
GivesStatement m s (Ok x) o = (x.0.index < length m.stmts) × (o ≡ Some (shown_stmt m x.0.index, drop x.1 s))
GivesStatement m s (Err e) o = Fails e o

abbrev pub GivesBlock : State → List PlacedLine → Result (Vec StmtId × ℕ) Unread → Option (Block × List PlacedLine) → Type 0
GivesBlock m s (Ok x) o = AreStmtsBelow (length m.stmts) x.0.items × (o ≡ Some (block_tree (shown_stmt m) x.0.items, drop x.1 s))
GivesBlock m s (Err e) o = Fails e o

abbrev pub GivesBranches : State → List PlacedLine → Result (Vec BranchNode × ℕ) Unread → Option (Branches × List PlacedLine) → Type 0
GivesBranches m s (Ok x) o = AreBranchesBelow m (length m.stmts) x.0.items × (o ≡ Some (branches_tree m (shown_stmt m) x.0.items, drop x.1 s))
GivesBranches m s (Err e) o = Fails e o

abbrev pub GivesHandlers : State → List PlacedLine → Result (Vec HandlerNode × ℕ) Unread → Option (Handlers × List PlacedLine) → Type 0
GivesHandlers m s (Ok x) o = AreHandlersBelow m (length m.stmts) x.0.items × (o ≡ Some (handlers_tree m (shown_stmt m) x.0.items, drop x.1 s))
GivesHandlers m s (Err e) o = Fails e o

-- the body of a module that all the lines spell
abbrev pub GivesBody : State → Result (Vec StmtId) Unread → Option Block → Type 0
GivesBody m (Ok x) o = AreStmtsBelow (length m.stmts) x.items × (o ≡ Some (block_tree (shown_stmt m) x.items))
GivesBody m (Err e) o = Fails e o

-- what stands behind the first block of a statement, which is b

abbrev pub if_behind : (ℕ → ParseLines Statement) → ℕ → ℕ → ℕ → Expr → Block → ParseLines Statement
if_behind p k d n e b s = branches_with p k d k tree.no_branch s >>= λ bs. else_with p k d bs.1 >>= λ c. Some (tree.if n e b bs.0 c.0, c.1)

abbrev pub while_behind : (ℕ → ParseLines Statement) → ℕ → ℕ → ℕ → Expr → Block → ParseLines Statement
while_behind p k d n e b s = else_with p k d s >>= λ c. Some (tree.while n e b c.0, c.1)

abbrev pub for_behind : (ℕ → ParseLines Statement) → ℕ → ℕ → ℕ → List ℕ → Expr → Block → ParseLines Statement
for_behind p k d n x e b s = else_with p k d s >>= λ c. Some (tree.for n x e b c.0, c.1)
