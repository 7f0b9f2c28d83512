-- The tokens of a text, or the first refusal.
use Rattle.std.specs.Prelude.{◌≡◌, ℕ, zero, suc, Bool, nat_lt, List, [], ◌∷◌, ◌++◌, length, map, Option, Some, None, Result, Ok, Err, if◌then◌else◌}
use Rattle.std.specs.List.{list_any}
use Rattle.std.specs.Str.{bytes_eq}
use Rattle.spec_tokens.specs.declared.TheConstants.{KEYWORDS}
use Rattle.spec_tokens.specs.declared.Kind.{Kind}
use Rattle.spec_tokens.specs.declared.Kind.TheVariants as kind
use Rattle.spec_tokens.specs.declared.Lexeme.{Lexeme}
use Rattle.spec_tokens.specs.declared.Piece.{Piece}
use Rattle.spec_tokens.specs.declared.Refusal.{Refusal}
use Rattle.spec_tokens.specs.declared.TokenKind.{TokenKind}
use Rattle.spec_tokens.specs.declared.TokenKind.TheVariants.{Name, Keyword, Int, Str, Op, Newline, Indent, Dedent, End}
use Rattle.spec_tokens.specs.Letters.{mark_size, letters_of, ends_of, lines_of, run, is_blank}
use Rattle.spec_tokens.specs.Pieces.{spelling, line_feeds, ArePieces}
use Rattle.spec_tokens.specs.Refusals.{first_of, letter_refusals, piece_refusals}
use Rattle.spec_tokens.specs.Lines.{bracket_refusals, full_lines, leading, innermost, dedents, columns_at, mixed_refusals, dedent_refusals}

-- ---- tokens of a line

abbrev pub is_keyword : List ℕ → Bool
is_keyword w = list_any (λ k. bytes_eq k.now w) KEYWORDS

-- the kind of the token that a piece w is, where it is one
abbrev pub token_kind : Kind → List ℕ → Option TokenKind
token_kind kind.Name w = if is_keyword w then Some Keyword else Some Name
token_kind kind.Integer w = Some Int
token_kind kind.Text w = Some Str
token_kind kind.Operator w = Some Op
token_kind (kind.Open b) w = Some Op
token_kind (kind.Close b) w = Some Op
token_kind _ w = None

-- the token of a piece, before other tokens
abbrev pub kept : Option TokenKind → Piece → List Lexeme → List Lexeme
kept None p ts = ts
kept (Some k) p ts = record { kind = k; start = p.start; end = p.end; line = p.line } ∷ ts

-- what ends a logical line: its line end or, where it has none, nothing behind its last piece
abbrev pub newline : Kind → Piece → Lexeme
newline kind.LineEnd p = record { kind = Newline; start = p.start; end = p.end; line = p.line }
newline _ p = record { kind = Newline; start = p.end; end = p.end; line = p.line }

-- the tokens of a logical line, Newline at their end
unfoldable pub line_tokens : List ℕ → List Piece → List Lexeme
line_tokens letters [] = []
line_tokens letters (p ∷ []) = kept (token_kind p.kind (spelling letters p)) p (newline p.kind p ∷ [])
line_tokens letters (p ∷ q ∷ ps) = kept (token_kind p.kind (spelling letters p)) p (line_tokens letters (q ∷ ps))

-- ---- indentation

-- n tokens of a kind at a place, before other tokens
abbrev pub times : ℕ → Lexeme → List Lexeme → List Lexeme
times zero t ts = ts
times (suc n) t ts = t ∷ times n t ts

-- the place behind the indentation of a line that begins with a piece of a kind
abbrev pub margin : Kind → Piece → ℕ
margin kind.Blank p = p.end
margin _ p = p.start

-- An Indent where a line opens a column, and a Dedent for each column that it closes.
abbrev pub indentation : ℕ → List ℕ → List Piece → List Lexeme → List Lexeme
indentation n columns [] ts = ts
indentation n columns (p ∷ line) ts =
    if nat_lt (innermost columns) n then record { kind = Indent; start = p.start; end = p.end; line = p.line } ∷ ts
    else times (dedents n columns) (record { kind = Dedent; start = margin p.kind p; end = margin p.kind p; line = p.line }) ts

-- ---- the whole text

-- the end of the letters, on the line behind the last line end
abbrev pub at_end : TokenKind → List ℕ → Lexeme
at_end k letters = record { kind = k; start = length letters; end = length letters; line = suc (line_feeds letters) }

-- the tokens of logical lines, where columns are open
unfoldable pub tokens_from : List ℕ → List ℕ → List (List Piece) → List Lexeme
tokens_from letters columns [] = times (length columns) (at_end Dedent letters) (at_end End letters ∷ [])
tokens_from letters columns (line ∷ lines) =
    let n = length (leading letters line) in
    indentation n columns line (line_tokens letters line ++ tokens_from letters (columns_at n columns) lines)

-- all refusals of letters that are cut into these pieces
abbrev pub refusals : List ℕ → List Piece → List Refusal
refusals letters ps =
    letter_refusals 1 letters ++ (piece_refusals letters ps ++ (bracket_refusals [] ps
    ++ (mixed_refusals letters None (full_lines ps) ++ dedent_refusals letters [] (full_lines ps))))

-- a text that is cut into tokens
pub record Scan : Type 0 where
  -- its letters
  pub letters : List ℕ
  -- where the first letter begins, behind a byte order mark, and where each letter ends, in bytes
  pub first : ℕ
  pub ends : List ℕ
  -- the spaces and tabs that each line begins with, by their number
  pub indents : List ℕ
  pub tokens : List Lexeme

abbrev pub answer : Option Refusal → Scan → Result Scan Refusal
answer None s = Ok s
answer (Some r) s = Err r

-- the tokens of a text whose letters are cut into these pieces, or the first refusal
abbrev pub tokens_of : List ℕ → List Piece → Result Scan Refusal
tokens_of text ps =
    let letters = letters_of text in
    answer (first_of (refusals letters ps)) (record { letters = letters; first = mark_size text; ends = ends_of text; indents = map (run is_blank) (lines_of letters); tokens = tokens_from letters [] (full_lines ps) })

-- The tokens of a text, or its first refusal: those of the pieces into which its letters are cut. There is one way to cut them.
pub record IsScan (text : List ℕ) (r : Result Scan Refusal) : Type 0 where
  pub pieces : List Piece
  pub cut : ArePieces (letters_of text) pieces
  pub is : r ≡ tokens_of text pieces
