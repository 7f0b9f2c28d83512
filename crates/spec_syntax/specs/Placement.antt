-- Where lines may stand. Each fault is told with a line, and of all faults the one with the smallest line.
use Rattle.std.specs.Prelude.{ℕ, suc, ◌-◌, Bool, true, false, not, ◌&&◌, ◌||◌, ◌==◌, nat_lt, min, List, [], ◌∷◌, ◌++◌, length, drop, Option, Some, None, if◌then◌else◌}
use Rattle.std.specs.List.{list_any}
use Rattle.spec_trees.specs.Stmt as line
use Rattle.spec_trees.specs.Stmt.{Simple, Header, Line}
use Rattle.spec_grammar.specs.Blocks.{PlacedLine, catches_all}

-- ---- lines

abbrev pub number_of_simple : Simple → ℕ
number_of_simple (line.assign n a e) = n
number_of_simple (line.annotate n a d v) = n
number_of_simple (line.augment n a o e) = n
number_of_simple (line.evaluate n e) = n
number_of_simple (line.return n v) = n
number_of_simple (line.pass n) = n
number_of_simple (line.break n) = n
number_of_simple (line.continue n) = n
number_of_simple (line.assert n e m) = n
number_of_simple (line.reraise n) = n
number_of_simple (line.raise n x xs) = n
number_of_simple (line.delete n a) = n
number_of_simple (line.import n xs) = n
number_of_simple (line.import_from n x xs) = n

abbrev pub number_of_header : Header → ℕ
number_of_header (line.def n x ps a) = n
number_of_header (line.class n x) = n
number_of_header (line.if n e) = n
number_of_header (line.elif n e) = n
number_of_header (line.else n) = n
number_of_header (line.while n e) = n
number_of_header (line.for n x e) = n
number_of_header (line.try n) = n
number_of_header (line.except n xs) = n

-- the number of a line, which is that of its first word
abbrev pub number_of : Line → ℕ
number_of (line.simple x) = number_of_simple x
number_of (line.header h) = number_of_header h
number_of (line.header_simple h x) = number_of_header h

-- the header of a line, where it has one
abbrev pub header_of : Line → Option Header
header_of (line.simple x) = None
header_of (line.header h) = Some h
header_of (line.header_simple h x) = Some h

-- the header that awaits its block in the lines behind it
abbrev pub awaiting : Line → Option Header
awaiting (line.simple x) = None
awaiting (line.header h) = Some h
awaiting (line.header_simple h x) = None

-- ---- headers that go on with a statement

-- `elif`, `else` and `except` go on with the statement before them in their block
abbrev pub goes_on : Option Header → Bool
goes_on (Some (line.elif n e)) = true
goes_on (Some (line.else n)) = true
goes_on (Some (line.except n xs)) = true
goes_on _ = false

abbrev pub is_except : Option Header → Bool
is_except (Some (line.except n xs)) = true
is_except _ = false

abbrev pub is_try : Option Header → Bool
is_try (Some (line.try n)) = true
is_try _ = false

-- whether `elif` may go on with a statement whose last header this is
abbrev pub before_elif : Option Header → Bool
before_elif (Some (line.if n e)) = true
before_elif (Some (line.elif n e)) = true
before_elif _ = false

-- the same for `else`
abbrev pub before_else : Option Header → Bool
before_else (Some (line.if n e)) = true
before_else (Some (line.elif n e)) = true
before_else (Some (line.while n e)) = true
before_else (Some (line.for n x e)) = true
before_else (Some (line.except n xs)) = true
before_else _ = false

-- whether a header may stand behind a line with the header h in one block
abbrev pub may_follow : Option Header → Option Header → Bool
may_follow h (Some (line.elif n e)) = before_elif h
may_follow h (Some (line.else n)) = before_else h
may_follow h (Some (line.except n xs)) = is_try h || is_except h
may_follow h _ = true

-- whether the header catches all
abbrev pub is_catch_all : Option Header → Bool
is_catch_all (Some (line.except n xs)) = catches_all xs
is_catch_all _ = false

-- ---- faults between lines

-- the lines from the next one on that stands in at most d blocks
abbrev pub from_next : ℕ → List PlacedLine → List PlacedLine
from_next d [] = []
from_next d (l ∷ ls) = if nat_lt d l.depth then from_next d ls else l ∷ ls

-- the header of the next line in the same block, which stands in d blocks
abbrev pub next_header : ℕ → List PlacedLine → Option Header
next_header d [] = None
next_header d (l ∷ ls) = if l.depth == d then header_of l.line else None

-- the lines behind a line in d blocks and behind the block that it awaits; where it awaits none, deeper lines are no part of it
abbrev pub past_block : ℕ → Line → List PlacedLine → List PlacedLine
past_block d l ls = past (awaiting l)
  where
    past : Option Header → List PlacedLine
    past None = ls
    past (Some h) = from_next d ls

-- a fault at a line, where it is one
abbrev pub fault_if : Bool → ℕ → List ℕ
fault_if true n = n ∷ []
fault_if false n = []

-- a line in d blocks behind which these lines stand: its block begins just one deeper, and with no line that goes on; without a block no line stands deeper
abbrev pub block_faults : ℕ → Line → List PlacedLine → List ℕ
block_faults d l [] = fault_if (is_header (awaiting l)) (number_of l)
  where
    is_header : Option Header → Bool
    is_header None = false
    is_header (Some h) = true
block_faults d l (k ∷ ks) = begun (awaiting l)
  where
    begun : Option Header → List ℕ
    begun None = fault_if (nat_lt d k.depth) (number_of k.line)
    begun (Some h) = if nat_lt d k.depth then fault_if (nat_lt (suc d) k.depth || goes_on (header_of k.line)) (number_of k.line) else number_of l ∷ []

-- A line in d blocks before the next line in its block: what goes on must go on with something, `try` wants an `except`, and none follows one that catches all.
abbrev pub next_faults : ℕ → Line → List PlacedLine → List ℕ
next_faults d l [] = fault_if (is_try (header_of l)) (number_of l)
next_faults d l (k ∷ ks) =
    let h = next_header d (k ∷ ks) in
    fault_if (not (may_follow (header_of l) h)) (number_of k.line)
    ++ (fault_if (is_try (header_of l) && not (is_except h)) (number_of l)
    ++ fault_if (is_catch_all (header_of l) && is_except h) (number_of l))

-- ---- faults of a line among the headers of the blocks round it, the innermost first

abbrev pub is_def : Header → Bool
is_def (line.def n x ps a) = true
is_def _ = false

abbrev pub is_class : Header → Bool
is_class (line.class n x) = true
is_class _ = false

abbrev pub is_loop : Header → Bool
is_loop (line.while n e) = true
is_loop (line.for n x e) = true
is_loop _ = false

abbrev pub is_handler : Header → Bool
is_handler (line.except n xs) = true
is_handler _ = false

-- the headers up to that of the innermost function
abbrev pub within_function : List Header → List Header
within_function [] = []
within_function (h ∷ hs) = if is_def h then [] else h ∷ within_function hs

abbrev pub is_outermost : List Header → Bool
is_outermost [] = true
is_outermost (h ∷ hs) = false

-- `return` stands in a function, `break` and `continue` in a loop, `raise` alone in a handler of the same function, and imports in no block
abbrev pub simple_stands : List Header → Simple → Bool
simple_stands hs (line.return n v) = list_any is_def hs
simple_stands hs (line.break n) = list_any is_loop (within_function hs)
simple_stands hs (line.continue n) = list_any is_loop (within_function hs)
simple_stands hs (line.reraise n) = list_any is_handler (within_function hs)
simple_stands hs (line.import n xs) = is_outermost hs
simple_stands hs (line.import_from n x xs) = is_outermost hs
simple_stands hs _ = true

-- `class` stands in no block, and `def` in none or directly in a class
abbrev pub header_stands : List Header → Header → Bool
header_stands hs (line.class n x) = is_outermost hs
header_stands [] (line.def n x ps a) = true
header_stands (h ∷ hs) (line.def n x ps a) = is_class h && is_outermost hs
header_stands hs _ = true

abbrev pub stands : List Header → Line → Bool
stands hs (line.simple x) = simple_stands hs x
stands hs (line.header h) = header_stands hs h
stands hs (line.header_simple h x) = header_stands hs h && simple_stands (h ∷ hs) x

-- the headers round the lines behind a line
abbrev pub round_behind : List Header → Line → List Header
round_behind hs (line.header h) = h ∷ hs
round_behind hs _ = hs

-- the headers of d blocks, of those that are open
abbrev pub outer : ℕ → List Header → List Header
outer d hs = drop (length hs - d) hs

-- ---- all faults

-- the lines of all faults, where hs are the headers whose blocks are open, the innermost first
unfoldable pub faults_among : List Header → List PlacedLine → List ℕ
faults_among hs [] = []
faults_among hs (l ∷ ls) =
    fault_if (not (stands (outer l.depth hs) l.line)) (number_of l.line)
    ++ (block_faults l.depth l.line ls
    ++ (next_faults l.depth l.line (past_block l.depth l.line ls)
    ++ faults_among (round_behind (outer l.depth hs) l.line) ls))

-- a first line stands in no block, and goes on with nothing
abbrev pub first_faults : List PlacedLine → List ℕ
first_faults [] = []
first_faults (l ∷ ls) = fault_if (nat_lt 0 l.depth || goes_on (header_of l.line)) (number_of l.line)

abbrev pub placement_faults : List PlacedLine → List ℕ
placement_faults ls = first_faults ls ++ faults_among [] ls

-- the smallest number of a list
abbrev pub smaller : ℕ → Option ℕ → Option ℕ
smaller n None = Some n
smaller n (Some m) = Some (min n m)

abbrev pub smallest : List ℕ → Option ℕ
smallest [] = None
smallest (n ∷ ns) = smaller n (smallest ns)
