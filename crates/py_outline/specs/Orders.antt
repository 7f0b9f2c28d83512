-- Faults between lines, as their outlines show them.
use Rattle.std.specs.Prelude.{ℕ, suc, Bool, true, false, not, ◌&&◌, ◌||◌, ◌==◌, nat_lt, List, [], ◌∷◌, ◌++◌, Option, Some, None, if◌then◌else◌}
use Rattle.spec_syntax.specs.Placement.{fault_if}
use Rattle.py_outline.specs.declared.outline.HeaderKind.{HeaderKind}
use Rattle.py_outline.specs.declared.outline.HeaderKind.TheVariants as head
use Rattle.py_outline.specs.declared.outline.Form.{Form}
use Rattle.py_outline.specs.declared.outline.Form.TheVariants as form
use Rattle.py_outline.specs.declared.outline.Outline.{Outline}
use Rattle.py_outline.specs.Lists.{first_item}

-- the header of a line, where it has one
abbrev pub header_of : Form → Option HeaderKind
header_of (form.Simple x) = None
header_of (form.Header h) = Some h
header_of (form.HeaderSimple h x) = Some h

-- whether the block of the line stands in the lines behind it
abbrev pub awaits_block : Form → Bool
awaits_block (form.Header h) = true
awaits_block _ = false

-- `elif`, `else` and `except` go on with the statement before them in their block
abbrev pub goes_on : Option HeaderKind → Bool
goes_on (Some head.Elif) = true
goes_on (Some head.Else) = true
goes_on (Some head.Except) = true
goes_on (Some head.ExceptAll) = true
goes_on _ = false

abbrev pub is_except : Option HeaderKind → Bool
is_except (Some head.Except) = true
is_except (Some head.ExceptAll) = true
is_except _ = false

abbrev pub is_catch_all : Option HeaderKind → Bool
is_catch_all (Some head.ExceptAll) = true
is_catch_all _ = false

abbrev pub is_try : Option HeaderKind → Bool
is_try (Some head.Try) = true
is_try _ = false

-- whether `elif` may go on with a statement whose last header this is
abbrev pub before_elif : Option HeaderKind → Bool
before_elif (Some head.If) = true
before_elif (Some head.Elif) = true
before_elif _ = false

-- the same for `else`
abbrev pub before_else : Option HeaderKind → Bool
before_else (Some head.If) = true
before_else (Some head.Elif) = true
before_else (Some head.While) = true
before_else (Some head.For) = true
before_else (Some head.Except) = true
before_else (Some head.ExceptAll) = true
before_else _ = false

-- whether a header may stand behind a line with the header h in one block
abbrev pub may_follow : Option HeaderKind → Option HeaderKind → Bool
may_follow h (Some head.Elif) = before_elif h
may_follow h (Some head.Else) = before_else h
may_follow h (Some head.Except) = is_try h || is_except h
may_follow h (Some head.ExceptAll) = is_try h || is_except h
may_follow h _ = true

-- the lines from the next one on that stands in at most d blocks
abbrev pub from_next : ℕ → List Outline → List Outline
from_next d [] = []
from_next d (k ∷ ks) = if nat_lt d k.depth then from_next d ks else k ∷ ks

-- the lines behind a line and behind the block that it awaits
abbrev pub past_block : Outline → List Outline → List Outline
past_block o ks = if awaits_block o.form then from_next o.depth ks else ks

-- the header of the next line, where it stands in d blocks
abbrev pub header_at : ℕ → Outline → Option HeaderKind
header_at d k = if k.depth == d then header_of k.form else None

-- a line that awaits its block, before the next one: the block begins just one deeper, and with no line that goes on
abbrev pub begun_faults : Outline → Outline → List ℕ
begun_faults o k = if nat_lt o.depth k.depth then fault_if (nat_lt (suc o.depth) k.depth || goes_on (header_of k.form)) k.line else o.line ∷ []

-- a line before the very next one: where it awaits no block, that stands no deeper
abbrev pub block_faults : Outline → Option Outline → List ℕ
block_faults o None = fault_if (awaits_block o.form) o.line
block_faults o (Some k) = if awaits_block o.form then begun_faults o k else fault_if (nat_lt o.depth k.depth) k.line

-- what is wrong between a line with the header h and the next one in its block, with the header g
abbrev pub follow_faults : Outline → Outline → Option HeaderKind → Option HeaderKind → List ℕ
follow_faults o k h g = fault_if (not (may_follow h g)) k.line ++ (fault_if (is_try h && not (is_except g)) o.line ++ fault_if (is_catch_all h && is_except g) o.line)

-- a line before the next one behind its block
abbrev pub next_faults : Outline → Option Outline → List ℕ
next_faults o None = fault_if (is_try (header_of o.form)) o.line
next_faults o (Some k) = follow_faults o k (header_of o.form) (header_at o.depth k)

-- all faults of lines before those behind them
abbrev pub order_faults : List Outline → List ℕ
order_faults [] = []
order_faults (o ∷ os) = block_faults o (first_item os) ++ (next_faults o (first_item (past_block o os)) ++ order_faults os)
