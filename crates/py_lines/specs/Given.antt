-- What reading leaves behind and answers, beside what the definition reads.
use Rattle.std.specs.Prelude.{◌≡◌, ℕ, List, length, drop, Option, Some, None, Result, Ok, Err}
use Rattle.spec_trees.specs.Expr.{Expr}
use Rattle.spec_trees.specs.Stmt.{TypeExpr, Parameter, Header, Line}
use Rattle.spec_grammar.specs.declared.Mark.TheVariants as mark
use Rattle.spec_grammar.specs.Words.{Word}
use Rattle.spec_grammar.specs.Marks.{sign_at}
use Rattle.spec_grammar.specs.Reading.{Parse, ◌>>=◌, read_expr}
use Rattle.py_tree.specs.declared.ids.TypeId.{TypeId}
use Rattle.py_tree.specs.declared.stmts.ParameterNode.{ParameterNode}
use Rattle.py_tree.specs.Types.{optional_type, IsTypeBelow}
use Rattle.py_tree.specs.Stmts.{parameters_tree, AreParametersThere}
use Rattle.py_tree.specs.Arena.{State, shown_type}
use Rattle.py_words.specs.declared.unread.Unread.{Unread}
use Rattle.py_words.specs.Found.{Fails}
use Rattle.py_lines.specs.declared.nodes.HeaderNode.{HeaderNode}
use Rattle.py_lines.specs.declared.nodes.LineNode.{LineNode}
use Rattle.py_lines.specs.Headers.{parameter_tree, header_tree, IsParameterThere, IsHeaderThere, IsLine}

-- The answers of reading in the words s: what is read is there, its tree is the one that the definition reads, and the
-- place behind it is that of the words that follow.

abbrev pub GivesPlace : List Word → Result ℕ Unread → Option (List Word) → Type 0
GivesPlace s (Ok p) o = o ≡ Some (drop p s)
GivesPlace s (Err e) o = Fails e o

abbrev pub GivesAnnotation : List Word → State → Result (Option TypeId × ℕ) Unread → Option (Option TypeExpr × List Word) → Type 0
GivesAnnotation s m (Ok x) o = IsTypeBelow (length m.types) x.0 × (o ≡ Some (optional_type (shown_type m) x.0, drop x.1 s))
GivesAnnotation s m (Err e) o = Fails e o

abbrev pub GivesParameter : List Word → State → Result (ParameterNode × ℕ) Unread → Option (Parameter × List Word) → Type 0
GivesParameter s m (Ok x) o = IsParameterThere m x.0 × (o ≡ Some (parameter_tree m x.0, drop x.1 s))
GivesParameter s m (Err e) o = Fails e o

abbrev pub GivesParameters : {X : Type 0} → (X → List ParameterNode) → List Word → State → Result (X × ℕ) Unread → Option (List Parameter × List Word) → Type 0
GivesParameters view s m (Ok x) o = AreParametersThere m (view x.0) × (o ≡ Some (parameters_tree m (view x.0), drop x.1 s))
GivesParameters view s m (Err e) o = Fails e o

abbrev pub GivesHeader : List Word → State → Result (HeaderNode × ℕ) Unread → Option (Header × List Word) → Type 0
GivesHeader s m (Ok x) o = IsHeaderThere m x.0 × (o ≡ Some (header_tree m x.0, drop x.1 s))
GivesHeader s m (Err e) o = Fails e o

-- and of reading all the words
abbrev pub GivesLine : State → Result LineNode Unread → Option Line → Type 0
GivesLine m (Ok x) (Some l) = IsLine m x l
GivesLine m (Ok x) None = ⊥
GivesLine m (Err e) o = Fails e o

-- the expression before the colon that ends a header
abbrev pub last_expression : Parse Expr
last_expression s = read_expr s >>= λ e. sign_at mark.Colon e.1 >>= λ r. Some (e.0, r)
