-- What a node tells of the line that it stands for.
use Rattle.std.proofs.Common.{◌≡◌, ℕ, refl}
use Rattle.spec_trees.specs.Stmt.{Line, simple, header, header_simple}
use Rattle.spec_grammar.specs.Height.{line_height}
use Rattle.spec_syntax.specs.Phases.{blocks_round}
use Rattle.py_tree.specs.Arena.{State}
use Rattle.py_lines.specs.declared.nodes.LineNode.{LineNode}
use Rattle.py_lines.specs.declared.nodes.LineNode.TheVariants as node
use Rattle.py_lines.specs.Headers.{IsLine}
use Rattle.py_nesting.specs.Heights.{node_height, blocks_round_node, IsNodeThere}

pub node_there : (m : State) (x : LineNode) (l : Line) → IsLine m x l → IsNodeThere m x
node_there m (node.Simple s) (simple d) h = h.0
node_there m (node.Simple s) (header y) h = absurd h
node_there m (node.Simple s) (header_simple y d) h = absurd h
node_there m (node.Header x) (simple d) h = absurd h
node_there m (node.Header x) (header y) h = h.0
node_there m (node.Header x) (header_simple y d) h = absurd h
node_there m (node.HeaderSimple x s) (simple d) h = absurd h
node_there m (node.HeaderSimple x s) (header y) h = absurd h
node_there m (node.HeaderSimple x s) (header_simple y d) h = (h.0, h.2)

pub height_of_node : (m : State) (x : LineNode) (l : Line) → IsLine m x l → node_height m x ≡ line_height l
height_of_node m (node.Simple s) (simple d) h = rw h.1 refl
height_of_node m (node.Simple s) (header y) h = absurd h
height_of_node m (node.Simple s) (header_simple y d) h = absurd h
height_of_node m (node.Header x) (simple d) h = absurd h
height_of_node m (node.Header x) (header y) h = rw h.1 refl
height_of_node m (node.Header x) (header_simple y d) h = absurd h
height_of_node m (node.HeaderSimple x s) (simple d) h = absurd h
height_of_node m (node.HeaderSimple x s) (header y) h = absurd h
height_of_node m (node.HeaderSimple x s) (header_simple y d) h = rw (h.1, h.3) refl

pub blocks_of_node : (m : State) (d : ℕ) (x : LineNode) (l : Line) → IsLine m x l → blocks_round_node d x ≡ blocks_round d l
blocks_of_node m d (node.Simple s) (simple e) h = refl
blocks_of_node m d (node.Simple s) (header y) h = absurd h
blocks_of_node m d (node.Simple s) (header_simple y e) h = absurd h
blocks_of_node m d (node.Header x) (simple e) h = absurd h
blocks_of_node m d (node.Header x) (header y) h = refl
blocks_of_node m d (node.Header x) (header_simple y e) h = absurd h
blocks_of_node m d (node.HeaderSimple x s) (simple e) h = absurd h
blocks_of_node m d (node.HeaderSimple x s) (header y) h = absurd h
blocks_of_node m d (node.HeaderSimple x s) (header_simple y e) h = refl
