-- What is added to a module while its blocks are built.
use Rattle.std.specs.Prelude.{◌≡◌, ℕ, List, [], ◌∷◌, ◌++◌, map, Contains}
use Rattle.py_tree.specs.declared.stmts.StmtNode.{StmtNode}
use Rattle.py_tree.specs.declared.stmts.StmtNode.TheVariants as node
use Rattle.py_tree.specs.Arena.{State, IsModule}
use Rattle.py_placed.specs.declared.placed.PlacedLine as placed
use Rattle.py_placed.specs.Extents.{span_of, extents}

-- The first and the last line of a function or class are among those of lines with what stands deeper behind them.
abbrev pub HasExtent : List (ℕ × ℕ) → StmtNode → Type 0
HasExtent xs (node.Def l k x ps r b) = Contains xs (l, k)
HasExtent xs (node.Class l k x b) = Contains xs (l, k)
HasExtent xs _ = Unit {0}

abbrev pub HaveExtents : List (ℕ × ℕ) → List StmtNode → Type 0
HaveExtents xs [] = Unit {0}
HaveExtents xs (y ∷ ys) = HasExtent xs y × HaveExtents xs ys

-- the first and the last line of each of these lines with what stands deeper behind it
abbrev pub line_extents : List placed.PlacedLine → List (ℕ × ℕ)
line_extents xs = extents (map span_of xs)

-- Nothing is added but statements, and none to those of the module itself. Functions and classes among them have their extents.
pub record Builds (xs : List (ℕ × ℕ)) (m n : State) : Type 0 where
  pub more : List StmtNode
  pub stmts : n ≡ record m { stmts = m.stmts ++ more }
  pub extents : HaveExtents xs more
  pub valid : IsModule n
