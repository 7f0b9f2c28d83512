-- Lines and headers that are looked for at a place.
use Rattle.std.specs.Prelude.{◌≡◌, ◌==◌, ℕ, ◌+◌, ◌<◌, List, length, drop, Option, Some, None, slice_get, if◌then◌else◌}
use Rattle.spec_trees.specs.Expr.{Expr}
use Rattle.spec_trees.specs.Stmt.{Simple}
use Rattle.spec_trees.specs.Module as tree
use Rattle.spec_grammar.specs.Blocks.{PlacedLine}
use Rattle.py_tree.specs.declared.ids.ExprId.{ExprId}
use Rattle.py_tree.specs.declared.ids.NamesId.{NamesId}
use Rattle.py_tree.specs.declared.ids.StmtId.{StmtId}
use Rattle.py_tree.specs.Stmts.{texts_of}
use Rattle.py_tree.specs.Arena.{State, shown, shown_stmt}
use Rattle.py_lines.specs.declared.nodes.HeaderNode.{HeaderNode}
use Rattle.py_lines.specs.declared.nodes.LineNode.{LineNode}
use Rattle.py_lines.specs.declared.nodes.LineNode.TheVariants as line
use Rattle.py_placed.specs.declared.placed.PlacedLine as placed

-- the line of a list, where there is one and it stands in d blocks
abbrev pub in_depth : ℕ → Option placed.PlacedLine → Option placed.PlacedLine
in_depth d None = None
in_depth d (Some x) = if x.depth == d then Some x else None

-- the header of a line, and the statement that stands on the line with it
abbrev pub head_of : LineNode → Option (HeaderNode × Option StmtId)
head_of (line.Simple s) = None
head_of (line.Header h) = Some (h, None)
head_of (line.HeaderSimple h s) = Some (h, Some s)

abbrev pub head_in : Option placed.PlacedLine → Option (HeaderNode × Option StmtId)
head_in None = None
head_in (Some x) = head_of x.node

-- the header at a place p, where its line stands in d blocks
abbrev pub head_at : List placed.PlacedLine → ℕ → ℕ → Option (HeaderNode × Option StmtId)
head_at xs d p = head_in (in_depth d (slice_get xs p))

-- The statement on the line of a header is known by its tree.
abbrev pub IsOwn : State → Option StmtId → Option Simple → Type 0
IsOwn m None None = Unit {0}
IsOwn m (Some s) (Some d) = (s.index < length m.stmts) × (shown_stmt m s.index ≡ tree.simple d)
IsOwn m _ _ = ⊥

-- The header h, with the statement s on its line, stands at the place p.
abbrev pub IsHead : List placed.PlacedLine → ℕ → HeaderNode → Option StmtId → Type 0
IsHead xs p h s = (x : placed.PlacedLine) × (slice_get xs p ≡ Some x) × (head_of x.node ≡ Some (h, s))

-- ---- headers that go on with a statement, with the lines s behind the place p

-- `elif`, by its line and its condition
abbrev pub FindsBranch : State → List PlacedLine → ℕ → Option (ℕ × ExprId × Option StmtId) → Option ((ℕ × Expr) × Option Simple × List PlacedLine) → Type 0
FindsBranch m s p None o = o ≡ None
FindsBranch m s p (Some x) o = (x.1.index < length m.exprs) × ((d : Option Simple) × IsOwn m x.2 d × (o ≡ Some ((x.0, shown m x.1.index), d, drop (p + 1) s)))

-- `except`, by its line and its classes
abbrev pub FindsHandler : State → List PlacedLine → ℕ → Option (ℕ × NamesId × Option StmtId) → Option ((ℕ × List (List ℕ)) × Option Simple × List PlacedLine) → Type 0
FindsHandler m s p None o = o ≡ None
FindsHandler m s p (Some x) o = (x.1.index < length m.lists) × ((d : Option Simple) × IsOwn m x.2 d × (o ≡ Some ((x.0, texts_of m x.1), d, drop (p + 1) s)))

-- `else`, by its line
abbrev pub FindsElse : State → List PlacedLine → ℕ → Option (ℕ × Option StmtId) → Option (ℕ × Option Simple × List PlacedLine) → Type 0
FindsElse m s p None o = o ≡ None
FindsElse m s p (Some x) o = (d : Option Simple) × IsOwn m x.1 d × (o ≡ Some (x.0, d, drop (p + 1) s))
