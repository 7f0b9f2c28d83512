-- Reading the blocks of a module from its first line on, with no way back.
use Rattle.std.specs.Prelude.{ℕ, zero, suc, Bool, true, false, List, [], ◌∷◌, length, Option, Some, None, ◌==◌, if◌then◌else◌}
use Rattle.spec_trees.specs.Expr.{Expr}
use Rattle.spec_trees.specs.Stmt as line
use Rattle.spec_trees.specs.Stmt.{Simple, Header, Line}
use Rattle.spec_trees.specs.Module as tree
use Rattle.spec_trees.specs.Module.{Statement, Block, no_statement, statement, Branches, no_branch, branch, Handlers, no_handler, handler}
use Rattle.spec_grammar.specs.Reading.{◌>>=◌, given}
use Rattle.spec_grammar.specs.Blocks.{PlacedLine, catches_all}

-- a value and the lines behind it
abbrev pub ParseLines : Type 0 → Type 0
ParseLines A = List PlacedLine → Option (A × List PlacedLine)

-- lists with one more at the end, and whole
abbrev pub with_statement : Block → Statement → Block
with_statement no_statement e = statement e no_statement
with_statement (statement d b) e = statement d (with_statement b e)

abbrev pub all_statements : Block → Block → Block
all_statements no_statement c = c
all_statements (statement d b) c = statement d (all_statements b c)

abbrev pub with_branch : Branches → ℕ → Expr → Block → Branches
with_branch no_branch n e b = branch n e b no_branch
with_branch (branch m d c bs) n e b = branch m d c (with_branch bs n e b)

abbrev pub all_branches : Branches → Branches → Branches
all_branches no_branch cs = cs
all_branches (branch m d c bs) cs = branch m d c (all_branches bs cs)

abbrev pub with_handler : Handlers → ℕ → List (List ℕ) → Block → Handlers
with_handler no_handler n xs b = handler n xs b no_handler
with_handler (handler m ys c hs) n xs b = handler m ys c (with_handler hs n xs b)

abbrev pub all_handlers : Handlers → Handlers → Handlers
all_handlers no_handler gs = gs
all_handlers (handler m ys c hs) gs = handler m ys c (all_handlers hs gs)

-- a header, the statement on its line, and what follows
abbrev pub Head : Type 0
Head = Header × Option Simple × List PlacedLine

abbrev pub head_of : Line → List PlacedLine → Option Head
head_of (line.simple x) s = None
head_of (line.header h) s = Some (h, None, s)
head_of (line.header_simple h x) s = Some (h, Some x, s)

-- the header in d blocks with which lines begin
abbrev pub head_at : ℕ → List PlacedLine → Option Head
head_at d [] = None
head_at d (l ∷ s) = if l.depth == d then head_of l.line s else None

abbrev pub elif_of : Header → Option (ℕ × Expr)
elif_of (line.elif n e) = Some (n, e)
elif_of _ = None

abbrev pub except_of : Header → Option (ℕ × List (List ℕ))
except_of (line.except n xs) = Some (n, xs)
except_of _ = None

abbrev pub else_of : Header → Option ℕ
else_of (line.else n) = Some n
else_of _ = None

-- the header in d blocks with which lines begin, where f admits it
abbrev pub admitted_at : {A : Type 0} → (Header → Option A) → ℕ → List PlacedLine → Option (A × Option Simple × List PlacedLine)
admitted_at f d s = head_at d s >>= λ h. f h.0 >>= λ x. Some (x, h.1, h.2)

-- {statement}, where p reads a statement
unfoldable pub block_with : ParseLines Statement → ℕ → Block → ParseLines Block
block_with p zero b s = None
block_with p (suc k) b s = given (p s) (λ e. block_with p k (with_statement b e.0) e.1) (Some (b, s))

-- the block of a header in d blocks, where p reads a statement in a number of blocks
unfoldable pub body_with : (ℕ → ParseLines Statement) → ℕ → ℕ → Option Simple → ParseLines Block
body_with p k d (Some x) s = Some (statement (tree.simple x) no_statement, s)
body_with p k d None s = p (suc d) s >>= λ e. block_with (p (suc d)) k (statement e.0 no_statement) e.1

-- {"elif" body}
unfoldable pub branches_with : (ℕ → ParseLines Statement) → ℕ → ℕ → ℕ → Branches → ParseLines Branches
branches_with p k d zero bs s = None
branches_with p k d (suc n) bs s = given (admitted_at elif_of d s) (λ c. body_with p k d c.1 c.2 >>= λ b. branches_with p k d n (with_branch bs c.0.0 c.0.1 b.0) b.1) (Some (bs, s))

-- {"except" body}, behind a handler that catches all where the flag says so
unfoldable pub handlers_with : (ℕ → ParseLines Statement) → ℕ → ℕ → ℕ → Bool → Handlers → ParseLines Handlers
handlers_with p k d zero f hs s = None
handlers_with p k d (suc n) true hs s = Some (hs, s)
handlers_with p k d (suc n) false hs s = given (admitted_at except_of d s) (λ c. body_with p k d c.1 c.2 >>= λ b. handlers_with p k d n (catches_all c.0.1) (with_handler hs c.0.0 c.0.1 b.0) b.1) (Some (hs, s))

-- ["else" body]
unfoldable pub else_with : (ℕ → ParseLines Statement) → ℕ → ℕ → ParseLines Block
else_with p k d s = given (admitted_at else_of d s) (λ c. body_with p k d c.1 c.2) (Some (no_statement, s))

-- what stands behind the block of `try`
unfoldable pub tried_with : (ℕ → ParseLines Statement) → ℕ → ℕ → ℕ → Block → ParseLines Statement
tried_with p k d n b s =
    admitted_at except_of d s >>= λ c. body_with p k d c.1 c.2 >>= λ f.
    handlers_with p k d k (catches_all c.0.1) (handler c.0.0 c.0.1 f.0 no_handler) f.1 >>= λ hs.
    else_with p k d hs.1 >>= λ g. Some (tree.try n b hs.0 g.0, g.1)

-- the statement that a header in d blocks begins, with what stands on its line
unfoldable pub headed_with : (ℕ → ParseLines Statement) → ℕ → ℕ → Header → Option Simple → ParseLines Statement
headed_with p k d (line.def n x ps a) o s = body_with p k d o s >>= λ b. Some (tree.def n x ps a b.0, b.1)
headed_with p k d (line.class n x) o s = body_with p k d o s >>= λ b. Some (tree.class n x b.0, b.1)
headed_with p k d (line.if n e) o s = body_with p k d o s >>= λ b. branches_with p k d k no_branch b.1 >>= λ bs. else_with p k d bs.1 >>= λ c. Some (tree.if n e b.0 bs.0 c.0, c.1)
headed_with p k d (line.elif n e) o s = None
headed_with p k d (line.else n) o s = None
headed_with p k d (line.while n e) o s = body_with p k d o s >>= λ b. else_with p k d b.1 >>= λ c. Some (tree.while n e b.0 c.0, c.1)
headed_with p k d (line.for n x e) o s = body_with p k d o s >>= λ b. else_with p k d b.1 >>= λ c. Some (tree.for n x e b.0 c.0, c.1)
headed_with p k d (line.try n) o s = body_with p k d o s >>= λ b. tried_with p k d n b.0 b.1
headed_with p k d (line.except n xs) o s = None

unfoldable pub placed_with : (ℕ → ParseLines Statement) → ℕ → ℕ → Line → ParseLines Statement
placed_with p k d (line.simple x) s = Some (tree.simple x, s)
placed_with p k d (line.header h) s = headed_with p k d h None s
placed_with p k d (line.header_simple h x) s = headed_with p k d h (Some x) s

unfoldable pub statement_with : (ℕ → ParseLines Statement) → ℕ → ℕ → ParseLines Statement
statement_with p k d [] = None
statement_with p k d (l ∷ s) = if l.depth == d then placed_with p k d l.line s else None

-- The number bounds the nesting and the turns. One more than the count of the lines is always enough.
unfoldable pub statement_below : ℕ → ℕ → ParseLines Statement
statement_below zero d s = None
statement_below (suc n) d s = statement_with (statement_below n) (suc n) d s

-- nothing may be left
abbrev pub all_lines : Option (Block × List PlacedLine) → Option Block
all_lines None = None
all_lines (Some (b, [])) = Some b
all_lines (Some (b, l ∷ s)) = None

-- the body of a module that all the lines spell, where there is one
unfoldable pub module_of : List PlacedLine → Option Block
module_of s = all_lines (block_with (statement_below (suc (length s)) 0) (suc (length s)) no_statement s)
