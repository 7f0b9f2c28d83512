-- The contract lines of a docstring, and the blocks below them.
use Rattle.std.specs.Prelude.{ℕ, Bool, true, false, not, ◌&&◌, ◌==◌, nat_lt, List, [], ◌∷◌, ◌++◌, length, Option, Some, None, if◌then◌else◌}
use Rattle.std.specs.List.{list_any}
use Rattle.spec_syntax.specs.Texts.{unindented}
use Rattle.spec_contracts.specs.declared.LineKind.{LineKind}
use Rattle.spec_contracts.specs.declared.LineKind.TheVariants.{Pre, Post, Raises, Invariant}
use Rattle.spec_contracts.specs.Docstrings.{DocLine}
use Rattle.spec_contracts.specs.Heads.{Head, head_of, names_in}

-- a contract line: its number, what it promises, and the names in its brackets where it has brackets
pub record Promise : Type 0 where
  pub line : ℕ
  pub kind : LineKind
  pub names : Option (List (List ℕ))

-- what an entry holds
pub data Content : Type 0 where
  -- the letters of an expression
  spelled : List ℕ → Content
  -- the names of exception classes
  classes : List (List ℕ) → Content
  -- nothing that can be read
  unread : Content

-- One expression or one list of classes: its line, and the contract line that it belongs to, which is another one in a block.
pub record Entry : Type 0 where
  pub line : ℕ
  pub promise : Promise
  pub content : Content

-- a block that may go on: the contract line above it, how far that is indented, and whether the block has no expression yet
pub record Opened : Type 0 where
  pub promise : Promise
  pub indent : ℕ
  pub is_empty : Bool

-- what a line gives, and the block that is open behind it
pub record Turn : Type 0 where
  pub entries : List Entry
  pub block : Option Opened

abbrev pub is_raises : LineKind → Bool
is_raises Raises = true
is_raises Pre = false
is_raises Post = false
is_raises Invariant = false

abbrev pub is_empty_text : List ℕ → Bool
is_empty_text s = length (unindented s) == 0

abbrev pub is_comment : List ℕ → Bool
is_comment [] = false
is_comment (c ∷ s) = c == 35

-- a backslash, where the literal is not raw
abbrev pub is_escaped : Bool → List ℕ → Bool
is_escaped raw s = not raw && list_any (λ c. c == 92) s

-- what a line holds; where it has such a backslash, it is not read
abbrev pub unless_escaped : Bool → List ℕ → Content → Content
unless_escaped raw s x = if is_escaped raw s then unread else x

abbrev pub listed : Option (List (List ℕ)) → Content
listed (Some xs) = classes xs
listed None = unread

-- what stands behind the colon of a contract line
abbrev pub content_of : LineKind → List ℕ → Content
content_of kind s = if is_raises kind then listed (names_in s) else spelled s

-- ---- contract lines

abbrev pub promise_of : ℕ → Head → Promise
promise_of n h = record { line = n; kind = h.kind; names = h.names }

-- whether a block follows
abbrev pub opens : Head → Bool
opens h = not (is_raises h.kind) && is_empty_text h.rest

abbrev pub entry_of : Bool → DocLine → Head → Entry
entry_of raw l h = record { line = l.number; promise = promise_of l.number h; content = unless_escaped raw l.text (content_of h.kind h.rest) }

abbrev pub opened : DocLine → Head → Opened
opened l h = record { promise = promise_of l.number h; indent = l.indent; is_empty = true }

-- a line behind prose or behind a block
abbrev pub begun : Bool → DocLine → Option Head → Turn
begun raw l None = record { entries = []; block = None }
begun raw l (Some h) = if opens h then record { entries = []; block = Some (opened l h) } else record { entries = entry_of raw l h ∷ []; block = None }

-- ---- blocks

-- a block without an expression is refused at its contract line
abbrev pub closed : Opened → List Entry
closed b = if b.is_empty then record { line = b.promise.line; promise = b.promise; content = unread } ∷ [] else []

abbrev pub entry_in : Bool → Opened → DocLine → Content → Entry
entry_in raw b l x = record { line = l.number; promise = b.promise; content = unless_escaped raw l.text x }

-- a comment is none of the expressions of its block
abbrev pub commented : Bool → Opened → DocLine → List Entry
commented raw b l = if is_escaped raw l.text then entry_in raw b l unread ∷ [] else []

-- a line of a block that is not empty
abbrev pub continued : Bool → Opened → DocLine → Turn
continued raw b l = if is_comment l.text then record { entries = commented raw b l; block = Some b } else record { entries = entry_in raw b l (spelled l.text) ∷ []; block = Some (record b { is_empty = false }) }

-- entries before those of a line
abbrev pub behind_entries : List Entry → Turn → Turn
behind_entries es t = record t { entries = es ++ t.entries }

-- A line, where a block may be open. The block goes on over empty lines and lines that stand deeper than its contract line.
abbrev pub turn : Bool → Option Opened → DocLine → Turn
turn raw None l = begun raw l (head_of l.text)
turn raw (Some b) l =
    if length l.text == 0 then record { entries = []; block = Some b }
    else if nat_lt b.indent l.indent then continued raw b l
    else behind_entries (closed b) (begun raw l (head_of l.text))

-- the entries of lines, behind an open block where there is one
abbrev pub entries : Bool → Option Opened → List DocLine → List Entry
entries raw None [] = []
entries raw (Some b) [] = closed b
entries raw o (l ∷ ls) = let t = turn raw o l in t.entries ++ entries raw t.block ls
