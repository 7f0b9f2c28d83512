-- The form of a line, by the nodes of its parts.
use Rattle.std.proofs.Common.{◌≡◌, refl}
use Rattle.spec_trees.specs.Stmt.{Line, simple, header, header_simple}
use Rattle.py_tree.specs.Arena.{State, shown_stmt}
use Rattle.py_outline.specs.declared.outline.Form.{Form}
use Rattle.py_outline.specs.declared.outline.Form.TheVariants as form
use Rattle.py_outline.specs.Outlines.{kind_of_header, form_of}
use Rattle.py_lines.specs.declared.nodes.LineNode.{LineNode}
use Rattle.py_lines.specs.declared.nodes.LineNode.TheVariants as line
use Rattle.py_lines.specs.Headers.{header_tree, IsLine}
use Rattle.py_forms.specs.Kinds.{kind_of_statement}

-- the form of a line, by the trees of its parts
abbrev pub form_of_node : State → LineNode → Form
form_of_node m (line.Simple s) = form.Simple (kind_of_statement (shown_stmt m s.index))
form_of_node m (line.Header x) = form.Header (kind_of_header (header_tree m x))
form_of_node m (line.HeaderSimple x s) = form.HeaderSimple (kind_of_header (header_tree m x)) (kind_of_statement (shown_stmt m s.index))

pub form_is : (m : State) (x : LineNode) (l : Line) → IsLine m x l → form_of_node m x ≡ form_of l
form_is m (line.Simple s) (simple d) h = rw h.1 refl
form_is m (line.Header x) (header a) h = rw h.1 refl
form_is m (line.HeaderSimple x s) (header_simple a d) h = rw (h.1, h.3) refl
form_is m (line.Simple s) (header a) h = absurd h
form_is m (line.Simple s) (header_simple a e) h = absurd h
form_is m (line.Header x) (simple e) h = absurd h
form_is m (line.Header x) (header_simple a e) h = absurd h
form_is m (line.HeaderSimple x s) (simple e) h = absurd h
form_is m (line.HeaderSimple x s) (header a) h = absurd h
