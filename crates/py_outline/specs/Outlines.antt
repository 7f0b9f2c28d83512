-- The outlines of lines.
use Rattle.std.specs.Prelude.{ℕ, List, [], ◌∷◌}
use Rattle.spec_trees.specs.Stmt as line
use Rattle.spec_trees.specs.Stmt.{Simple, Header, Line}
use Rattle.spec_grammar.specs.Blocks.{PlacedLine}
use Rattle.spec_syntax.specs.Placement.{number_of}
use Rattle.py_outline.specs.declared.outline.HeaderKind.{HeaderKind}
use Rattle.py_outline.specs.declared.outline.HeaderKind.TheVariants as head
use Rattle.py_outline.specs.declared.outline.SimpleKind.{SimpleKind}
use Rattle.py_outline.specs.declared.outline.SimpleKind.TheVariants as simple
use Rattle.py_outline.specs.declared.outline.Form.{Form}
use Rattle.py_outline.specs.declared.outline.Form.TheVariants as form
use Rattle.py_outline.specs.declared.outline.Outline.{Outline}

abbrev pub kind_of_simple : Simple → SimpleKind
kind_of_simple (line.return n v) = simple.Return
kind_of_simple (line.break n) = simple.Break
kind_of_simple (line.continue n) = simple.Continue
kind_of_simple (line.reraise n) = simple.Reraise
kind_of_simple (line.import n xs) = simple.Import
kind_of_simple (line.import_from n x xs) = simple.Import
kind_of_simple _ = simple.Other

-- the kind of a handler with these classes
abbrev pub kind_of_handler : List (List ℕ) → HeaderKind
kind_of_handler [] = head.ExceptAll
kind_of_handler (x ∷ xs) = head.Except

abbrev pub kind_of_header : Header → HeaderKind
kind_of_header (line.def n x ps a) = head.Def
kind_of_header (line.class n x) = head.Class
kind_of_header (line.if n e) = head.If
kind_of_header (line.elif n e) = head.Elif
kind_of_header (line.else n) = head.Else
kind_of_header (line.while n e) = head.While
kind_of_header (line.for n x e) = head.For
kind_of_header (line.try n) = head.Try
kind_of_header (line.except n xs) = kind_of_handler xs

abbrev pub form_of : Line → Form
form_of (line.simple x) = form.Simple (kind_of_simple x)
form_of (line.header h) = form.Header (kind_of_header h)
form_of (line.header_simple h x) = form.HeaderSimple (kind_of_header h) (kind_of_simple x)

abbrev pub outline_of : PlacedLine → Outline
outline_of p = record { depth = p.depth; line = number_of p.line; form = form_of p.line }
