-- The tree of the logical lines of a text, or why it has none. Each phase goes over all lines before the next one begins.
use Rattle.std.specs.Prelude.{ℕ, suc, ◌<◌, ◌≡◌, ◌⊎◌, Bool, ◌||◌, nat_lt, List, [], ◌∷◌, Option, Some, None, Result, Ok, Err, if◌then◌else◌}
use Rattle.spec_trees.specs.Stmt as line
use Rattle.spec_trees.specs.Stmt.{Line}
use Rattle.spec_trees.specs.Module.{Block, no_statement}
use Rattle.spec_grammar.specs.Words.{line_of}
use Rattle.spec_grammar.specs.Load.{load, MAX_LOAD}
use Rattle.spec_grammar.specs.Headers.{IsLine}
use Rattle.spec_grammar.specs.HeaderReading.{read_line}
use Rattle.spec_grammar.specs.Height.{line_height, MAX_HEIGHT}
use Rattle.spec_grammar.specs.Blocks.{PlacedLine, IsModule}
use Rattle.spec_grammar.specs.BlockReading.{module_of}
use Rattle.spec_syntax.specs.Lines.{WordLine}
use Rattle.spec_syntax.specs.Placement.{number_of, placement_faults, smallest}

-- why lines have no tree, with the number of the line at which that shows
pub data Misfit : Type 0 where
  -- a load, an expression or blocks go deeper than is admitted
  too_deep : ℕ → Misfit
  -- the words are neither a simple statement nor a header, nor both
  no_line : ℕ → Misfit
  -- the line stands where it may not
  misplaced : ℕ → Misfit

-- ---- the first of a list

-- The number n is that of the first element of which P holds.
pub data IsFirst {A : Type 0} (P : A → Type 0) (number : A → ℕ) : List A → ℕ → Type 0 where
  here : {x : A} {xs : List A} → P x → IsFirst P number (x ∷ xs) (number x)
  later : {x : A} {xs : List A} {n : ℕ} → (P x → ⊥) → IsFirst P number xs n → IsFirst P number (x ∷ xs) n

-- P holds of no element.
pub data IsNowhere {A : Type 0} (P : A → Type 0) : List A → Type 0 where
  nowhere : IsNowhere P []
  not_here : {x : A} {xs : List A} → (P x → ⊥) → IsNowhere P xs → IsNowhere P (x ∷ xs)

-- the number of the first element that passes a test
abbrev pub first_where : {A : Type 0} → (A → Bool) → (A → ℕ) → List A → Option ℕ
first_where test number [] = None
first_where test number (x ∷ xs) = if test x then Some (number x) else first_where test number xs

-- ---- the load

-- the number of a line of words, which is that of its first word
abbrev pub number_of_words : WordLine → ℕ
number_of_words l = line_of l.words

-- The load of the line is above what is admitted.
abbrev pub IsOverloaded : WordLine → Type 0
IsOverloaded l = MAX_LOAD < load l.words

-- whether it is
abbrev pub is_overloaded : WordLine → Bool
is_overloaded l = nat_lt MAX_LOAD (load l.words)

-- the number of the first line whose load is above what is admitted
unfoldable pub first_overloaded : List WordLine → Option ℕ
first_overloaded ls = first_where is_overloaded number_of_words ls

-- ---- the form of lines

-- The words spell no line.
abbrev pub IsNoLine : WordLine → Type 0
IsNoLine l = (x : Line) → IsLine l.words x → ⊥

-- Each line of words spells a line, which stands in as many blocks.
pub data AreLines : List WordLine → List PlacedLine → Type 0 where
  no_lines : AreLines [] []
  one_line : {l : WordLine} {ls : List WordLine} {x : Line} {ps : List PlacedLine} → IsLine l.words x → AreLines ls ps → AreLines (l ∷ ls) (record { depth = l.depth; line = x } ∷ ps)

-- what a line of words spells before lines that are read
abbrev pub line_before : WordLine → Option Line → Result (List PlacedLine) ℕ → Result (List PlacedLine) ℕ
line_before l None r = Err (number_of_words l)
line_before l (Some x) (Err n) = Err n
line_before l (Some x) (Ok ps) = Ok (record { depth = l.depth; line = x } ∷ ps)

-- the lines that lines of words spell, or the number of the first one that spells none
unfoldable pub read_lines : List WordLine → Result (List PlacedLine) ℕ
read_lines [] = Ok []
read_lines (l ∷ ls) = line_before l (read_line l.words) (read_lines ls)

-- ---- nesting

-- the greatest number of blocks round a statement or header of a line in d blocks
abbrev pub blocks_round : ℕ → Line → ℕ
blocks_round d (line.simple x) = d
blocks_round d (line.header h) = d
blocks_round d (line.header_simple h x) = suc d

-- the greatest number of blocks that is admitted
abbrev pub MAX_DEPTH : ℕ
MAX_DEPTH = 100

-- the number of a line in its place
abbrev pub number_of_placed : PlacedLine → ℕ
number_of_placed p = number_of p.line

-- An expression of the line is higher than is admitted, or it stands in more blocks than that.
abbrev pub IsDeep : PlacedLine → Type 0
IsDeep p = (MAX_HEIGHT < line_height p.line) ⊎ (MAX_DEPTH < blocks_round p.depth p.line)

-- whether one of these holds
abbrev pub is_deep : PlacedLine → Bool
is_deep p = nat_lt MAX_HEIGHT (line_height p.line) || nat_lt MAX_DEPTH (blocks_round p.depth p.line)

-- the number of the first line with an expression that is too high, or in too many blocks
unfoldable pub first_deep : List PlacedLine → Option ℕ
first_deep ps = first_where is_deep number_of_placed ps

-- ---- blocks

-- the smallest number of a line that stands where it may not, or that lacks what must follow it
unfoldable pub first_misplaced : List PlacedLine → Option ℕ
first_misplaced ps = smallest (placement_faults ps)

-- ---- all phases

-- What the lines of a text are: a block, or the first refusal.
pub data IsParsed : List WordLine → Result Block Misfit → Type 0 where
  overload : {ls : List WordLine} {n : ℕ} → IsFirst IsOverloaded number_of_words ls n → IsParsed ls (Err (too_deep n))
  no_form : {ls : List WordLine} {n : ℕ} → IsNowhere IsOverloaded ls → IsFirst IsNoLine number_of_words ls n → IsParsed ls (Err (no_line n))
  deep : {ls : List WordLine} {ps : List PlacedLine} {n : ℕ} → IsNowhere IsOverloaded ls → AreLines ls ps → IsFirst IsDeep number_of_placed ps n → IsParsed ls (Err (too_deep n))
  fault : {ls : List WordLine} {ps : List PlacedLine} {n : ℕ} → IsNowhere IsOverloaded ls → AreLines ls ps → IsNowhere IsDeep ps → smallest (placement_faults ps) ≡ Some n → IsParsed ls (Err (misplaced n))
  whole : {ls : List WordLine} {ps : List PlacedLine} {b : Block} → IsNowhere IsOverloaded ls → AreLines ls ps → IsNowhere IsDeep ps → placement_faults ps ≡ [] → IsModule ps b → IsParsed ls (Ok b)

-- The block that lines spell. Lines that stand where they may spell one.
abbrev pub block_of : Option Block → Block
block_of None = no_statement
block_of (Some b) = b

-- the result behind the phase of blocks, by the smallest fault of places
abbrev pub by_places : List PlacedLine → Option ℕ → Result Block Misfit
by_places ps (Some n) = Err (misplaced n)
by_places ps None = Ok (block_of (module_of ps))

-- the result behind the phase of nesting, by the first line that is too deep
abbrev pub by_depth : List PlacedLine → Option ℕ → Result Block Misfit
by_depth ps (Some n) = Err (too_deep n)
by_depth ps None = by_places ps (first_misplaced ps)

-- the result behind the phase of lines, by the lines that are read
abbrev pub by_lines : Result (List PlacedLine) ℕ → Result Block Misfit
by_lines (Err n) = Err (no_line n)
by_lines (Ok ps) = by_depth ps (first_deep ps)

-- the result behind the phase of loads, by the first line that is overloaded
abbrev pub by_load : List WordLine → Option ℕ → Result Block Misfit
by_load ls (Some n) = Err (too_deep n)
by_load ls None = by_lines (read_lines ls)

-- the block that the lines of a text spell, or the first refusal
unfoldable pub parsed : List WordLine → Result Block Misfit
parsed ls = by_load ls (first_overloaded ls)
