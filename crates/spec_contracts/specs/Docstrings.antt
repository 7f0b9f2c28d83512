-- The docstring of a body, and its lines.
use Rattle.std.specs.Prelude.{ℕ, suc, ◌==◌, List, [], ◌∷◌, Option, Some, None}
use Rattle.std.specs.List.{slice_split}
use Rattle.std.specs.Str.{chars}
use Rattle.spec_tokens.specs.Letters.{run, is_blank}
use Rattle.spec_trees.specs.Expr.{StringPart, text}
use Rattle.spec_trees.specs.Stmt.{evaluate}
use Rattle.spec_trees.specs.Module.{Statement, Block, simple, no_statement, statement}
use Rattle.spec_syntax.specs.Texts.{unindented}

-- a line of a docstring: its number, how many spaces and tabs it is indented by, and the letters behind them
pub record DocLine : Type 0 where
  pub number : ℕ
  pub indent : ℕ
  pub text : List ℕ

-- the string literal that a statement is, where it is one alone
abbrev pub literal_of : Statement → Option StringPart
literal_of (simple (evaluate n (text m p []))) = Some p
literal_of _ = None

-- the docstring of a body is its first statement
abbrev pub docstring_of : Block → Option StringPart
docstring_of no_statement = None
docstring_of (statement s b) = literal_of s

-- letters of lines, of which the first has the number n
abbrev pub numbered : ℕ → List (List ℕ) → List DocLine
numbered n [] = []
numbered n (s ∷ ss) = record { number = n; indent = run is_blank s; text = unindented s } ∷ numbered (suc n) ss

-- the first line is indented as the line of the text on which the docstring starts
abbrev pub indented : ℕ → List DocLine → List DocLine
indented k [] = []
indented k (l ∷ ls) = record l { indent = k } ∷ ls

-- the lines of letters, of which the first has the number n and is indented by k
abbrev pub lines_in : ℕ → ℕ → List ℕ → List DocLine
lines_in n k s = indented k (numbered n (slice_split (λ c. c == 10) s))

-- The lines between the quotes. Escapes are not interpreted.
abbrev pub lines_of : StringPart → List DocLine
lines_of p = lines_in p.line p.indent (chars p.source)
