-- Logical lines, their brackets and their indentation (Python 3.12 language reference, "Line structure").
use Rattle.std.specs.Prelude.{ℕ, Bool, true, false, not, ◌==◌, nat_lt, List, [], ◌∷◌, length, drop, filter, Option, Some, None, if◌then◌else◌}
use Rattle.std.specs.List.{list_all, list_any}
use Rattle.spec_tokens.specs.declared.Bracket.{Bracket}
use Rattle.spec_tokens.specs.declared.Bracket.TheVariants.{Round, Square, Curly}
use Rattle.spec_tokens.specs.declared.Fault.{Fault}
use Rattle.spec_tokens.specs.declared.Fault.TheVariants.{MixedIndent, BadDedent, OpenBracket}
use Rattle.spec_tokens.specs.declared.Kind.{Kind}
use Rattle.spec_tokens.specs.declared.Kind.TheVariants.{Blank, Comment, LineEnd, Join, Open, Close}
use Rattle.spec_tokens.specs.declared.Piece.{Piece}
use Rattle.spec_tokens.specs.declared.Refusal.{Refusal}
use Rattle.spec_tokens.specs.Letters.{run}
use Rattle.spec_tokens.specs.Pieces.{spelling}
use Rattle.spec_tokens.specs.Refusals.{told}

-- ---- brackets

abbrev pub is_same : Bracket → Bracket → Bool
is_same Round Round = true
is_same Square Square = true
is_same Curly Curly = true
is_same _ _ = false

abbrev pub opens : Bracket → Kind → Bool
opens b (Open c) = is_same c b
opens b _ = false

-- whether a closing bracket matches the innermost one that is open
abbrev pub matches : Bracket → List Piece → Bool
matches b [] = false
matches b (p ∷ outer) = opens b p.kind

abbrev pub without_first : {A : Type 0} → List A → List A
without_first [] = []
without_first (x ∷ xs) = xs

-- The brackets that are open behind a piece, the innermost first. A closing one that does not match leaves them as they are.
abbrev pub open_behind : List Piece → Piece → Kind → List Piece
open_behind outer p (Open b) = p ∷ outer
open_behind outer p (Close b) = if matches b outer then without_first outer else outer
open_behind outer p _ = outer

-- a closing bracket that does not match
abbrev pub bracket_fault : List Piece → Kind → Option Fault
bracket_fault outer (Close b) = if matches b outer then None else Some OpenBracket
bracket_fault outer _ = None

-- a bracket that is open at the end is told with the line of the innermost one
abbrev pub left_open : List Piece → List Refusal
left_open [] = []
left_open (p ∷ outer) = record { line = p.line; fault = OpenBracket } ∷ []

unfoldable pub bracket_refusals : List Piece → List Piece → List Refusal
bracket_refusals outer [] = left_open outer
bracket_refusals outer (p ∷ ps) = told (bracket_fault outer p.kind) p.line (bracket_refusals (open_behind outer p p.kind) ps)

-- ---- logical lines

-- a line end where no bracket is open
abbrev pub ends_line : List Piece → Kind → Bool
ends_line [] LineEnd = true
ends_line _ _ = false

abbrev pub begun_by : Piece → List (List Piece) → List (List Piece)
begun_by p [] = (p ∷ []) ∷ []
begun_by p (line ∷ lines) = (p ∷ line) ∷ lines

-- pieces are cut into logical lines behind each line end where no bracket is open
unfoldable pub logical_lines : List Piece → List Piece → List (List Piece)
logical_lines outer [] = []
logical_lines outer (p ∷ ps) = if ends_line outer p.kind then (p ∷ []) ∷ logical_lines outer ps else begun_by p (logical_lines (open_behind outer p p.kind) ps)

-- blanks, comments, line ends and joins alone make a blank line
abbrev pub is_nothing : Kind → Bool
is_nothing Blank = true
is_nothing Comment = true
is_nothing LineEnd = true
is_nothing Join = true
is_nothing _ = false

abbrev pub is_full : List Piece → Bool
is_full line = not (list_all (λ p. is_nothing p.kind) line)

-- the logical lines that are not blank
abbrev pub full_lines : List Piece → List (List Piece)
full_lines ps = filter is_full (logical_lines [] ps)

-- ---- indentation

abbrev pub blank_at : Kind → List ℕ → List ℕ
blank_at Blank w = w
blank_at _ w = []

-- the spaces and tabs that a logical line begins with
abbrev pub leading : List ℕ → List Piece → List ℕ
leading letters [] = []
leading letters (p ∷ line) = blank_at p.kind (spelling letters p)

-- the physical line on which a logical line begins
abbrev pub line_of : List Piece → ℕ
line_of [] = 0
line_of (p ∷ line) = p.line

-- the letter by which lines are indented: the first one that is
abbrev pub unit_behind : Option ℕ → List ℕ → Option ℕ
unit_behind (Some c) w = Some c
unit_behind None [] = None
unit_behind None (c ∷ w) = Some c

abbrev pub mixed_fault : Option ℕ → List ℕ → Option Fault
mixed_fault None w = None
mixed_fault (Some c) w = if list_any (λ d. not (d == c)) w then Some MixedIndent else None

-- lines are indented by spaces alone or by tabs alone
unfoldable pub mixed_refusals : List ℕ → Option ℕ → List (List Piece) → List Refusal
mixed_refusals letters unit [] = []
mixed_refusals letters unit (line ∷ lines) =
    let now = unit_behind unit (leading letters line) in
    told (mixed_fault now (leading letters line)) (line_of line) (mixed_refusals letters now lines)

-- the innermost of the open columns; the column 0 is always open
abbrev pub innermost : List ℕ → ℕ
innermost [] = 0
innermost (c ∷ columns) = c

-- how many columns a line closes that is indented by n
abbrev pub dedents : ℕ → List ℕ → ℕ
dedents n columns = run (λ c. nat_lt n c) columns

-- The columns that are open in a line indented by n. More than the innermost one opens a column, and less closes those that are greater.
abbrev pub columns_at : ℕ → List ℕ → List ℕ
columns_at n columns = if nat_lt (innermost columns) n then n ∷ columns else drop (dedents n columns) columns

-- the column of a line must be open
abbrev pub dedent_fault : ℕ → List ℕ → Option Fault
dedent_fault n columns = if innermost (columns_at n columns) == n then None else Some BadDedent

unfoldable pub dedent_refusals : List ℕ → List ℕ → List (List Piece) → List Refusal
dedent_refusals letters columns [] = []
dedent_refusals letters columns (line ∷ lines) =
    let n = length (leading letters line) in
    told (dedent_fault n columns) (line_of line) (dedent_refusals letters (columns_at n columns) lines)
