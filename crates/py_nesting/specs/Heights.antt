-- The heights of nodes, and the blocks round them.
use Rattle.std.specs.Prelude.{◌<◌, ℕ, suc, max, length}
use Rattle.spec_trees.specs.Module as tree
use Rattle.spec_trees.specs.Module.{Statement}
use Rattle.spec_grammar.specs.Height.{simple_height, header_height}
use Rattle.py_tree.specs.Arena.{State, shown_stmt}
use Rattle.py_lines.specs.declared.nodes.LineNode.{LineNode}
use Rattle.py_lines.specs.declared.nodes.LineNode.TheVariants as node
use Rattle.py_lines.specs.Headers.{header_tree, IsHeaderThere}

-- the greatest height of an expression in a simple statement, and 0 for a statement with blocks
abbrev pub statement_height : Statement → ℕ
statement_height (tree.simple d) = simple_height d
statement_height _ = 0

module _ (m : State) where
  -- the greatest height of an expression in a line
  abbrev pub node_height : LineNode → ℕ
  node_height (node.Simple s) = statement_height (shown_stmt m s.index)
  node_height (node.Header x) = header_height (header_tree m x)
  node_height (node.HeaderSimple x s) = max (header_height (header_tree m x)) (statement_height (shown_stmt m s.index))

  -- the parts of a line are in m
  abbrev pub IsNodeThere : LineNode → Type 0
  IsNodeThere (node.Simple s) = s.index < length m.stmts
  IsNodeThere (node.Header x) = IsHeaderThere m x
  IsNodeThere (node.HeaderSimple x s) = IsHeaderThere m x × (s.index < length m.stmts)

-- the greatest number of blocks round a statement or header of a line in d blocks
abbrev pub blocks_round_node : ℕ → LineNode → ℕ
blocks_round_node d (node.Simple s) = d
blocks_round_node d (node.Header x) = d
blocks_round_node d (node.HeaderSimple x s) = suc d
