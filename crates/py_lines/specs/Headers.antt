-- The trees of a header and of a line, whose parts are in a module.
use Rattle.std.specs.Prelude.{◌≡◌, ◌<◌, length}
use Rattle.spec_trees.specs.Stmt.{Parameter, Header, def, class, if, elif, else, while, for, try, except, Line, simple, header, header_simple}
use Rattle.spec_trees.specs.Module as tree
use Rattle.py_tree.specs.declared.stmts.ParameterNode.{ParameterNode}
use Rattle.py_tree.specs.Names.{text_of}
use Rattle.py_tree.specs.Exprs.{IsBoundBelow}
use Rattle.py_tree.specs.Types.{optional_type, IsTypeBelow}
use Rattle.py_tree.specs.Stmts.{texts_of, optional_expr, parameters_tree, AreParametersThere}
use Rattle.py_tree.specs.Arena.{State, shown, shown_type, shown_stmt}
use Rattle.py_lines.specs.declared.nodes.HeaderNode.{HeaderNode}
use Rattle.py_lines.specs.declared.nodes.HeaderNode.TheVariants as node
use Rattle.py_lines.specs.declared.nodes.LineNode.{LineNode}
use Rattle.py_lines.specs.declared.nodes.LineNode.TheVariants as line

module _ (m : State) where
  abbrev pub parameter_tree : ParameterNode → Parameter
  parameter_tree x = record { name = text_of m.names x.name; annotation = optional_type (shown_type m) x.annotation; default = optional_expr m x.default }

  abbrev pub header_tree : HeaderNode → Header
  header_tree (node.Def l x ps r) = def l (text_of m.names x) (parameters_tree m ps.items) (optional_type (shown_type m) r)
  header_tree (node.Class l x) = class l (text_of m.names x)
  header_tree (node.If l e) = if l (shown m e.index)
  header_tree (node.Elif l e) = elif l (shown m e.index)
  header_tree (node.Else l) = else l
  header_tree (node.While l e) = while l (shown m e.index)
  header_tree (node.For l x e) = for l (text_of m.names x) (shown m e.index)
  header_tree (node.Try l) = try l
  header_tree (node.Except l xs) = except l (texts_of m xs)

  -- the parts are in m
  abbrev pub IsParameterThere : ParameterNode → Type 0
  IsParameterThere x = (x.name.index < length m.names) × IsTypeBelow (length m.types) x.annotation × IsBoundBelow (length m.exprs) x.default

  abbrev pub IsHeaderThere : HeaderNode → Type 0
  IsHeaderThere (node.Def l x ps r) = (x.index < length m.names) × AreParametersThere m ps.items × IsTypeBelow (length m.types) r
  IsHeaderThere (node.Class l x) = x.index < length m.names
  IsHeaderThere (node.If l e) = e.index < length m.exprs
  IsHeaderThere (node.Elif l e) = e.index < length m.exprs
  IsHeaderThere (node.Else l) = Unit {0}
  IsHeaderThere (node.While l e) = e.index < length m.exprs
  IsHeaderThere (node.For l x e) = (x.index < length m.names) × (e.index < length m.exprs)
  IsHeaderThere (node.Try l) = Unit {0}
  IsHeaderThere (node.Except l xs) = xs.index < length m.lists

  -- A node stands for a line, and its parts are in m. A simple statement is known by its tree there.
  abbrev pub IsLine : LineNode → Line → Type 0
  IsLine (line.Simple s) (simple d) = (s.index < length m.stmts) × (shown_stmt m s.index ≡ tree.simple d)
  IsLine (line.Header x) (header h) = IsHeaderThere x × (h ≡ header_tree x)
  IsLine (line.HeaderSimple x s) (header_simple h d) = IsHeaderThere x × (h ≡ header_tree x) × (s.index < length m.stmts) × (shown_stmt m s.index ≡ tree.simple d)
  IsLine _ _ = ⊥
