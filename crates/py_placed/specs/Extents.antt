-- The lines of a text over which logical lines go, with what stands in their blocks.
use Rattle.std.specs.Prelude.{ℕ, ◌+◌, ◌==◌, nat_lt, List, [], ◌∷◌, if◌then◌else◌}
use Rattle.std.specs.List.{count_by}
use Rattle.spec_grammar.specs.Words.{Word, Name, Int, Str, Sign, line_of}
use Rattle.spec_syntax.specs.Lines.{WordLine}
use Rattle.py_placed.specs.declared.placed.PlacedLine as placed

-- the number of blocks in which a line stands, and the lines on which it begins and ends
pub record Span : Type 0 where
  pub depth : ℕ
  pub first : ℕ
  pub last : ℕ

-- the line feeds of a text, by its bytes
abbrev pub line_feeds : List ℕ → ℕ
line_feeds s = count_by (λ b. b == 10) s

-- the line on which a word ends: a string may go over several
abbrev pub end_of : Word → ℕ
end_of (Name n x) = n
end_of (Int n v) = n
end_of (Str p) = p.line + line_feeds p.source
end_of (Sign n m) = n

-- the line on which the last word ends, where the words before it end on e
abbrev pub last_end : ℕ → List Word → ℕ
last_end e [] = e
last_end e (w ∷ s) = last_end (end_of w) s

-- the span of a line of words
abbrev pub span_of_words : WordLine → Span
span_of_words l = record { depth = l.depth; first = line_of l.words; last = last_end 0 l.words }

-- the span of a line that was read
abbrev pub span_of : placed.PlacedLine → Span
span_of x = record { depth = x.depth; first = x.first; last = x.last }

-- the line on which the lines end that stand in more than d blocks, where what is before them ends on e
abbrev pub last_of : ℕ → ℕ → List Span → ℕ
last_of d e [] = e
last_of d e (x ∷ xs) = if nat_lt d x.depth then last_of d x.last xs else e

-- the first and the last line of each line with what stands deeper behind it
abbrev pub extents : List Span → List (ℕ × ℕ)
extents [] = []
extents (x ∷ xs) = (x.first, last_of x.depth x.last xs) ∷ extents xs
