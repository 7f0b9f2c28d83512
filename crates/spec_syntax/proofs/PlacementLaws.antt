-- Lines of which none is misplaced spell a block.
use Rattle.std.proofs.Common.{◌≡◌, ℕ, zero, suc, ◌<◌, ◌≤◌, Bool, true, false, not, ◌&&◌, ◌||◌, List, [], ◌∷◌, ◌++◌, length, Option, Some, None, refl, sym, ap, subst, inl, inr, arith, ◌==◌}
use Rattle.std.specs.Prelude.{nat_lt}
use Rattle.std.proofs.lemmas.Bool.{eqb-true, eqb-false, ltb-true, ltb-false, lt-ltb, le-ltb, not-false, or_parts}
use Rattle.spec_trees.specs.Expr.{Expr}
use Rattle.spec_trees.specs.Stmt as line
use Rattle.spec_trees.specs.Stmt.{Simple, Header, Line}
use Rattle.spec_trees.specs.Module as tree
use Rattle.spec_trees.specs.Module.{Statement, Block, Branches, Handlers}
use Rattle.spec_grammar.specs.Blocks.{PlacedLine, simple_line, IsHead, header_line, full_line, catches_all, IsStatement, simple, def, class, if, while, for, try, IsBody, on_the_line, indented, IsBlock, no_statement, statement, IsBranches, no_branch, branch, IsHandlers, no_handler, handler, IsElse, no_else, else, IsModule}
use Rattle.spec_grammar.proofs.Steps.{some_is, chosen}
use Rattle.spec_syntax.specs.Placement.{number_of, header_of, awaiting, goes_on, is_except, is_try, before_elif, before_else, may_follow, is_catch_all, from_next, next_header, past_block, fault_if, block_faults, next_faults, stands, round_behind, outer, faults_among, first_faults, placement_faults}

-- ---- lists of faults

-- no fault in two lists is none in each
append_none : (a b : List ℕ) → a ++ b ≡ [] → (a ≡ []) × (b ≡ [])
append_none [] b e = (refl, e)
append_none (x ∷ a) b e = absurd cc

-- a test that tells no fault has failed
no_fault : (b : Bool) (n : ℕ) → fault_if b n ≡ [] → b ≡ false
no_fault true n e = absurd cc
no_fault false n e = refl

-- what fails beside a test that passes
and_true : (b : Bool) → (b && true) ≡ false → b ≡ false
and_true true e = absurd cc
and_true false e = refl

-- the same, in the other order
and_yes : (b : Bool) → (true && b) ≡ false → b ≡ false
and_yes true e = absurd cc
and_yes false e = refl

-- Each line has the block that it awaits, and stands before what may follow it.
data Fits : List PlacedLine → Type 0 where
  all_fit : Fits []
  fit : {l : PlacedLine} {ls : List PlacedLine} → block_faults l.depth l.line ls ≡ [] → next_faults l.depth l.line (past_block l.depth l.line ls) ≡ [] → Fits ls → Fits (l ∷ ls)

-- lines with no fault fit
fits : (hs : List Header) (ls : List PlacedLine) → faults_among hs ls ≡ [] → Fits ls
unfolding faults_among
fits hs [] e = all_fit
fits hs (l ∷ ls) e =
    let a = append_none (fault_if (not (stands (outer l.depth hs) l.line)) (number_of l.line)) _ e in
    let b = append_none (block_faults l.depth l.line ls) _ a.1 in
    let c = append_none (next_faults l.depth l.line (past_block l.depth l.line ls)) _ b.1 in
    fit b.0 c.0 (fits (round_behind (outer l.depth hs) l.line) ls c.1)

-- ---- lines behind others

-- The lines r are those of s without some at the front, which stand in at least d blocks.
data Skips : ℕ → List PlacedLine → List PlacedLine → Type 0 where
  none_skipped : {d : ℕ} {s : List PlacedLine} → Skips d s s
  skipped : {d : ℕ} {l : PlacedLine} {s r : List PlacedLine} → d ≤ l.depth → Skips d s r → Skips d (l ∷ s) r

-- lines that are skipped before others that are
skips_on : {d : ℕ} {s m r : List PlacedLine} → Skips d s m → Skips d m r → Skips d s r
skips_on none_skipped j = j
skips_on (skipped h i) j = skipped h (skips_on i j)

-- lines in more blocks are in as many as wanted
skips_deeper : {d : ℕ} {s r : List PlacedLine} → Skips (suc d) s r → Skips d s r
skips_deeper none_skipped = none_skipped
skips_deeper (skipped h i) = skipped (omega arith) (skips_deeper i)

-- no line is added
skips_shorter : {d : ℕ} {s r : List PlacedLine} → Skips d s r → length r ≤ length s
skips_shorter none_skipped = omega arith
skips_shorter (skipped h i) = omega (arith, skips_shorter i)

-- lines behind lines that fit do too
fits_behind : {d : ℕ} {s r : List PlacedLine} → Skips d s r → Fits s → Fits r
fits_behind none_skipped f = f
fits_behind (skipped h i) (fit a b f) = fits_behind i f

-- The lines begin with none in d blocks or more.
data IsOutside : ℕ → List PlacedLine → Type 0 where
  at_end : {d : ℕ} → IsOutside d []
  outside : {d : ℕ} {l : PlacedLine} {s : List PlacedLine} → l.depth < d → IsOutside d (l ∷ s)

-- The lines begin with a statement in d blocks, or with none there.
data Begins : ℕ → List PlacedLine → Type 0 where
  ended : {d : ℕ} {s : List PlacedLine} → IsOutside d s → Begins d s
  anew : {d : ℕ} {l : PlacedLine} {s : List PlacedLine} → l.depth ≡ d → goes_on (header_of l.line) ≡ false → Begins d (l ∷ s)

-- the next line in at most d blocks is the first that is not skipped
from_next_is : {d : ℕ} {s r : List PlacedLine} → Skips (suc d) s r → IsOutside (suc d) r → from_next d s ≡ r
from_next_is none_skipped at_end = refl
from_next_is {d} none_skipped (outside {l = l} h) = rw (le-ltb d l.depth (omega arith)) refl
from_next_is {d} (skipped {l = l} h i) o = rw (lt-ltb d l.depth (omega arith)) (from_next_is i o)

-- ---- what follows a line

-- Behind a line in d blocks with the header h, these lines end its statement or go on with it.
data Follows (d : ℕ) (h : Option Header) : List PlacedLine → Type 0 where
  over : {r : List PlacedLine} → Begins d r → is_try h ≡ false → Follows d h r
  by_elif : {k : PlacedLine} {r : List PlacedLine} (n : ℕ) (e : Expr) → k.depth ≡ d → header_of k.line ≡ Some (line.elif n e) → before_elif h ≡ true → Follows d h (k ∷ r)
  by_else : {k : PlacedLine} {r : List PlacedLine} (n : ℕ) → k.depth ≡ d → header_of k.line ≡ Some (line.else n) → before_else h ≡ true → Follows d h (k ∷ r)
  by_except : {k : PlacedLine} {r : List PlacedLine} (n : ℕ) (xs : List (List ℕ)) → k.depth ≡ d → header_of k.line ≡ Some (line.except n xs) → (is_try h || is_except h) ≡ true → is_catch_all h ≡ false → Follows d h (k ∷ r)

-- what stands in the same block follows a line with the header h
follows_header : (d : ℕ) (h : Option Header) (k : PlacedLine) (r : List PlacedLine) (g : Option Header) → k.depth ≡ d → header_of k.line ≡ g → may_follow h g ≡ true → (is_try h && not (is_except g)) ≡ false → (is_catch_all h && is_except g) ≡ false → Follows d h (k ∷ r)
follows_header d h k r None same is m t c = over (anew same (ap goes_on is)) (and_true (is_try h) t)
follows_header d h k r (Some (line.elif n x)) same is m t c = by_elif n x same is m
follows_header d h k r (Some (line.else n)) same is m t c = by_else n same is m
follows_header d h k r (Some (line.except n xs)) same is m t c = by_except n xs same is m (and_true (is_catch_all h) c)
follows_header d h k r (Some g) same is m t c = over (anew same (ap goes_on is)) (and_true (is_try h) t)

-- what stands in no more than d blocks, and not in d, stands in fewer
further_out : (d : ℕ) (k : PlacedLine) (r : List PlacedLine) → (k.depth == d) ≡ false → IsOutside (suc d) (k ∷ r) → IsOutside d (k ∷ r)
further_out d k r e (outside h) = let other : k.depth ≡ d → ⊥ = eqb-false k.depth d e in outside (omega (arith, other))

-- with no fault between them, lines may follow a line
follows : (d : ℕ) (l : Line) (r : List PlacedLine) → IsOutside (suc d) r → next_faults d l r ≡ [] → Follows d (header_of l) r
follows d l [] o e = over (ended at_end) (no_fault (is_try (header_of l)) (number_of l) e)
follows d l (k ∷ r) o e = by_depth (k.depth == d) refl
  where
    first : (not (may_follow (header_of l) (next_header d (k ∷ r))) ≡ false) × ((is_try (header_of l) && not (is_except (next_header d (k ∷ r)))) ≡ false) × ((is_catch_all (header_of l) && is_except (next_header d (k ∷ r))) ≡ false)
    first =
        let a = append_none (fault_if (not (may_follow (header_of l) (next_header d (k ∷ r)))) (number_of k.line)) _ e in
        let b = append_none (fault_if (is_try (header_of l) && not (is_except (next_header d (k ∷ r)))) (number_of l)) _ a.1 in
        (no_fault _ (number_of k.line) a.0, no_fault _ (number_of l) b.0, no_fault _ (number_of l) b.1)

    by_depth : (b : Bool) → (k.depth == d) ≡ b → Follows d (header_of l) (k ∷ r)
    by_depth true same = follows_header d (header_of l) k r (header_of k.line) (eqb-true k.depth d same) refl (not-false _ (rw same at first.0)) (rw same at first.1) (rw same at first.2)
    by_depth false other = over (ended (further_out d k r other o)) (and_true (is_try (header_of l)) (rw other at first.1))

-- ---- statements

-- The lines s begin with a statement in d blocks.
record Spelled (d : ℕ) (s : List PlacedLine) : Type 0 where
  pub tree : Statement
  pub rest : List PlacedLine
  pub is : IsStatement d s rest tree
  pub begins : Begins d rest
  pub skips : Skips d s rest
  pub shorter : length rest < length s

-- Fewer than n lines that fit begin with a statement, where the first one may.
abbrev Spells : ℕ → Type 0
Spells n = (d : ℕ) (l : PlacedLine) (s : List PlacedLine) → length (l ∷ s) < n → Fits (l ∷ s) → l.depth ≡ d → goes_on (header_of l.line) ≡ false → Spelled d (l ∷ s)

-- The lines s begin with a block that is d deep, and end there.
record Filled (d : ℕ) (s : List PlacedLine) : Type 0 where
  pub block : Block
  pub rest : List PlacedLine
  pub is : IsBlock d s rest block
  pub ends : IsOutside d rest
  pub skips : Skips d s rest

-- lines that fit are statements up to the first one outside
filled : (n : ℕ) → Spells n → (k d : ℕ) (s : List PlacedLine) → length s < k → length s < n → Fits s → Begins d s → Filled d s
filled n h zero d s lt lt2 f b = absurd (omega arith)
filled n h (suc k) d s lt lt2 f (ended o) = record { block = tree.no_statement; rest = s; is = no_statement; ends = o; skips = none_skipped }
filled n h (suc k) d _ lt lt2 f (anew {l = l} {s = s} same not) =
    let x = h d l s lt2 f same not in
    let less = x.shorter in
    let r = filled n h k d x.rest (omega arith) (omega arith) (fits_behind x.skips f) x.begins in
    record { block = tree.statement x.tree r.block; rest = r.rest; is = statement x.is r.is; ends = r.ends; skips = skips_on x.skips r.skips }

-- The lines s begin in d blocks with the header h and its block.
record Headed (d : ℕ) (h : Header) (s : List PlacedLine) : Type 0 where
  pub one : Option Simple
  pub behind : List PlacedLine
  pub rest : List PlacedLine
  pub block : Block
  pub head : IsHead d s behind h one
  pub body : IsBody d one behind rest block
  pub follows : Follows d (Some h) rest
  pub skips : Skips d s rest
  pub shorter : length rest < length s

-- a line in d blocks
abbrev at : ℕ → Line → PlacedLine
at d m = record { depth = d; line = m }

-- where a line awaits no block, what stands behind it is no deeper
no_deeper : (d : ℕ) (m : Line) (s : List PlacedLine) → awaiting m ≡ None → block_faults d m s ≡ [] → IsOutside (suc d) s
no_deeper d m [] w e = at_end
no_deeper d m (k ∷ s) w e = let le = ltb-false d k.depth (no_fault (nat_lt d k.depth) (number_of k.line) (rw w at e)) in outside (omega arith)

-- where a header awaits its block, a statement one deeper stands behind it
just_deeper : (d : ℕ) (h : Header) (s : List PlacedLine) → block_faults d (line.header h) s ≡ [] → (k : PlacedLine) × (r : List PlacedLine) × (s ≡ k ∷ r) × (k.depth ≡ suc d) × (goes_on (header_of k.line) ≡ false)
just_deeper d h [] e = absurd cc
just_deeper d h (k ∷ r) e =
    elim (chosen (nat_lt d k.depth) (fault_if (nat_lt (suc d) k.depth || goes_on (header_of k.line)) (number_of k.line)) _ [] e) [
      | inl p ↦ deeper p.0 (or_parts _ _ (no_fault _ (number_of k.line) p.1))
      | inr p ↦ absurd cc
    ]
  where
    deeper : nat_lt d k.depth ≡ true → (nat_lt (suc d) k.depth ≡ false) × (goes_on (header_of k.line) ≡ false) → (j : PlacedLine) × (t : List PlacedLine) × ((k ∷ r) ≡ j ∷ t) × (j.depth ≡ suc d) × (goes_on (header_of j.line) ≡ false)
    deeper more both =
        let low = ltb-true d k.depth more in
        let high = ltb-false (suc d) k.depth both.0 in
        (k, r, refl, omega arith, both.1)

-- a header before the first statement and the other ones of its block
header_before : (d : ℕ) (h : Header) (s : List PlacedLine) (x : Spelled (suc d) s) (y : Filled (suc d) x.rest) → next_faults d (line.header h) (from_next d s) ≡ [] → Headed d h (at d (line.header h) ∷ s)
header_before d h s x y e =
    let less = skips_shorter x.skips in
    let less2 = skips_shorter y.skips in
    record {
      one = None;
      behind = s;
      rest = y.rest;
      block = tree.statement x.tree y.block;
      head = header_line;
      body = indented x.is y.is;
      follows = follows d (line.header h) y.rest y.ends (rw (from_next_is (skips_on x.skips y.skips) y.ends) at e);
      skips = skipped (omega arith) (skips_deeper (skips_on x.skips y.skips));
      shorter = omega arith;
    }

-- a header with its block, where the lines behind it fit
header_filled : (n : ℕ) → Spells n → (d : ℕ) (h : Header) (s : List PlacedLine) → length s < n → block_faults d (line.header h) s ≡ [] → next_faults d (line.header h) (from_next d s) ≡ [] → Fits s → Headed d h (at d (line.header h) ∷ s)
header_filled n p d h s lt b e f = with_first (just_deeper d h s b)
  where
    with_block : Spelled (suc d) s → Headed d h (at d (line.header h) ∷ s)
    with_block x = let less = skips_shorter x.skips in header_before d h s x (filled n p n (suc d) x.rest (omega arith) (omega arith) (fits_behind x.skips f) x.begins) e

    with_first : (k : PlacedLine) × (r : List PlacedLine) × (s ≡ k ∷ r) × (k.depth ≡ suc d) × (goes_on (header_of k.line) ≡ false) → Headed d h (at d (line.header h) ∷ s)
    with_first (k, r, same, deeper, not) = with_block (subst (Spelled (suc d)) (sym same) (p (suc d) k r (omega (arith, ap length same)) (subst Fits same f) deeper not))

-- a header with a statement on its line, where the lines behind it fit
header_full : (d : ℕ) (h : Header) (x : Simple) (s : List PlacedLine) → block_faults d (line.header_simple h x) s ≡ [] → next_faults d (line.header_simple h x) s ≡ [] → Headed d h (at d (line.header_simple h x) ∷ s)
header_full d h x s b e = record {
  one = Some x;
  behind = s;
  rest = s;
  block = tree.statement (tree.simple x) tree.no_statement;
  head = full_line;
  body = on_the_line;
  follows = follows d (line.header_simple h x) s (no_deeper d (line.header_simple h x) s refl b) e;
  skips = skipped (omega arith) none_skipped;
  shorter = omega arith;
}

-- a line with a header begins with it and its block
headed_by : (n : ℕ) → Spells n → (d : ℕ) (m : Line) (h : Header) (s : List PlacedLine) → length s < n → header_of m ≡ Some h → block_faults d m s ≡ [] → next_faults d m (past_block d m s) ≡ [] → Fits s → Headed d h (at d m ∷ s)
headed_by n p d (line.simple x) h s lt is b e f = absurd cc
headed_by n p d (line.header g) h s lt is b e f = subst (λ (j : Header). Headed d j (at d (line.header g) ∷ s)) (some_is g h is) (header_filled n p d g s lt b e f)
headed_by n p d (line.header_simple g x) h s lt is b e f = subst (λ (j : Header). Headed d j (at d (line.header_simple g x) ∷ s)) (some_is g h is) (header_full d g x s b e)

-- the same, where the line is a variable
headed : (n : ℕ) → Spells n → (d : ℕ) (l : PlacedLine) (h : Header) (s : List PlacedLine) → length s < n → l.depth ≡ d → header_of l.line ≡ Some h → Fits (l ∷ s) → Headed d h (l ∷ s)
headed n p d l h s lt same is (fit b e f) = subst (λ (c : ℕ). Headed c h (l ∷ s)) same (headed_by n p l.depth l.line h s lt is b e f)

-- ---- what goes on with a statement

-- nothing goes on with what neither `elif` nor `else` nor `except` may follow
nothing_goes_on : (d : ℕ) (h : Option Header) (s : List PlacedLine) → before_elif h ≡ false → before_else h ≡ false → (is_try h || is_except h) ≡ false → Follows d h s → Begins d s
nothing_goes_on d h s a b c (over g t) = g
nothing_goes_on d h s a b c (by_elif n e same is m) = absurd cc
nothing_goes_on d h s a b c (by_else n same is m) = absurd cc
nothing_goes_on d h s a b c (by_except n xs same is m t) = absurd cc

-- The lines s begin in d blocks with `else` and its block, or with none.
record Elsed (d : ℕ) (s : List PlacedLine) : Type 0 where
  pub block : Block
  pub rest : List PlacedLine
  pub is : IsElse d s rest block
  pub begins : Begins d rest
  pub skips : Skips d s rest

-- an `else` that goes on with a statement
else_taken : (n : ℕ) → Spells n → (d i : ℕ) (l : PlacedLine) (s : List PlacedLine) → length s < n → l.depth ≡ d → header_of l.line ≡ Some (line.else i) → Fits (l ∷ s) → Elsed d (l ∷ s)
else_taken n p d i l s lt same is f =
    let x = headed n p d l (line.else i) s lt same is f in
    record { block = x.block; rest = x.rest; is = else x.head x.body; begins = nothing_goes_on d (Some (line.else i)) x.rest refl refl refl x.follows; skips = x.skips }

-- what follows is `else` or nothing, where neither `elif` nor `except` may follow
elsed : (n : ℕ) → Spells n → (d : ℕ) (h : Option Header) (s : List PlacedLine) → length s ≤ n → Fits s → before_elif h ≡ false → (is_try h || is_except h) ≡ false → Follows d h s → Elsed d s
elsed n p d h s lt f a c (over g t) = record { block = tree.no_statement; rest = s; is = no_else; begins = g; skips = none_skipped }
elsed n p d h s lt f a c (by_elif i e same is m) = absurd cc
elsed n p d h _ lt f a c (by_else {k = k} {r = r} i same is m) = else_taken n p d i k r (omega arith) same is f
elsed n p d h s lt f a c (by_except i xs same is m t) = absurd cc

-- The lines s begin in d blocks with some `elif` with their blocks, and perhaps `else` with its block.
record Branched (d : ℕ) (s : List PlacedLine) : Type 0 where
  pub branches : Branches
  pub middle : List PlacedLine
  pub are : IsBranches d s middle branches
  pub last : Elsed d middle
  pub skips : Skips d s middle

-- what follows is some `elif` and perhaps `else`, where no `except` may follow
branched : (n : ℕ) → Spells n → (j d : ℕ) (h : Option Header) (s : List PlacedLine) → length s < j → length s ≤ n → Fits s → (is_try h || is_except h) ≡ false → Follows d h s → Branched d s
branched n p zero d h s lj lt f c g = absurd (omega arith)
branched n p (suc j) d h s lj lt f c (over b t) = record { branches = tree.no_branch; middle = s; are = no_branch; last = record { block = tree.no_statement; rest = s; is = no_else; begins = b; skips = none_skipped }; skips = none_skipped }
branched n p (suc j) d h _ lj lt f c (by_elif {k = k} {r = r} i e same is m) =
    let x = headed n p d k (line.elif i e) r (omega arith) same is f in
    let less = x.shorter in
    let y = branched n p j d (Some (line.elif i e)) x.rest (omega arith) (omega arith) (fits_behind x.skips f) refl x.follows in
    record { branches = tree.branch i e x.block y.branches; middle = y.middle; are = branch x.head x.body y.are; last = y.last; skips = skips_on x.skips y.skips }
branched n p (suc j) d h _ lj lt f c (by_else {k = k} {r = r} i same is m) = record { branches = tree.no_branch; middle = k ∷ r; are = no_branch; last = else_taken n p d i k r (omega arith) same is f; skips = none_skipped }
branched n p (suc j) d h s lj lt f c (by_except i xs same is m t) = absurd cc

-- The lines s begin in d blocks with some `except` with their blocks, and perhaps `else` with its block.
record Handled (d : ℕ) (all : Bool) (s : List PlacedLine) : Type 0 where
  pub handlers : Handlers
  pub middle : List PlacedLine
  pub are : IsHandlers d all s middle handlers
  pub last : Elsed d middle
  pub skips : Skips d s middle

-- what follows is some `except` and perhaps `else`
handled : (n : ℕ) → Spells n → (j d i : ℕ) (xs : List (List ℕ)) (s : List PlacedLine) → length s < j → length s ≤ n → Fits s → Follows d (Some (line.except i xs)) s → Handled d (catches_all xs) s
handled n p zero d i xs s lj lt f g = absurd (omega arith)
handled n p (suc j) d i xs s lj lt f (over b t) = record { handlers = tree.no_handler; middle = s; are = no_handler; last = record { block = tree.no_statement; rest = s; is = no_else; begins = b; skips = none_skipped }; skips = none_skipped }
handled n p (suc j) d i xs s lj lt f (by_elif k e same is m) = absurd cc
handled n p (suc j) d i xs _ lj lt f (by_else {k = k} {r = r} o same is m) = record { handlers = tree.no_handler; middle = k ∷ r; are = no_handler; last = else_taken n p d o k r (omega arith) same is f; skips = none_skipped }
handled n p (suc j) d i xs _ lj lt f (by_except {k = k} {r = r} o ys same is m t) =
    let x = headed n p d k (line.except o ys) r (omega arith) same is f in
    let less = x.shorter in
    let y = handled n p j d o ys x.rest (omega arith) (omega arith) (fits_behind x.skips f) x.follows in
    record {
      handlers = tree.handler o ys x.block y.handlers;
      middle = y.middle;
      are = subst (λ (b : Bool). IsHandlers d b (k ∷ r) y.middle (tree.handler o ys x.block y.handlers)) (sym t) (handler x.head x.body y.are);
      last = y.last;
      skips = skips_on x.skips y.skips;
    }

-- ---- statements and blocks

-- a simple statement
simple_spelled : (d : ℕ) (x : Simple) (s : List PlacedLine) → block_faults d (line.simple x) s ≡ [] → next_faults d (line.simple x) s ≡ [] → Spelled d (at d (line.simple x) ∷ s)
simple_spelled d x s b e = record {
  tree = tree.simple x;
  rest = s;
  is = simple simple_line;
  begins = nothing_goes_on d None s refl refl refl (follows d (line.simple x) s (no_deeper d (line.simple x) s refl b) e);
  skips = skipped (omega arith) none_skipped;
  shorter = omega arith;
}

-- `if` with its block, and what goes on with it
if_spelled : (d i : ℕ) (c : Expr) (s : List PlacedLine) (x : Headed d (line.if i c) s) → Branched d x.rest → Spelled d s
if_spelled d i c s x y = let less = x.shorter in let less2 = skips_shorter y.skips in let less3 = skips_shorter y.last.skips in record {
  tree = tree.if i c x.block y.branches y.last.block;
  rest = y.last.rest;
  is = if x.head x.body y.are y.last.is;
  begins = y.last.begins;
  skips = skips_on x.skips (skips_on y.skips y.last.skips);
  shorter = omega arith;
}

-- `while` with its block, and what goes on with it
while_spelled : (d i : ℕ) (c : Expr) (s : List PlacedLine) (x : Headed d (line.while i c) s) → Elsed d x.rest → Spelled d s
while_spelled d i c s x y = let less = x.shorter in let less2 = skips_shorter y.skips in record {
  tree = tree.while i c x.block y.block;
  rest = y.rest;
  is = while x.head x.body y.is;
  begins = y.begins;
  skips = skips_on x.skips y.skips;
  shorter = omega arith;
}

-- `for` with its block, and what goes on with it
for_spelled : (d i : ℕ) (v : List ℕ) (c : Expr) (s : List PlacedLine) (x : Headed d (line.for i v c) s) → Elsed d x.rest → Spelled d s
for_spelled d i v c s x y = let less = x.shorter in let less2 = skips_shorter y.skips in record {
  tree = tree.for i v c x.block y.block;
  rest = y.rest;
  is = for x.head x.body y.is;
  begins = y.begins;
  skips = skips_on x.skips y.skips;
  shorter = omega arith;
}

-- `try` with its block, its first handler, and what goes on with it
try_spelled : (d i j : ℕ) (xs : List (List ℕ)) (s : List PlacedLine) (x : Headed d (line.try i) s) (y : Headed d (line.except j xs) x.rest) → Handled d (catches_all xs) y.rest → Spelled d s
try_spelled d i j xs s x y z = let less = x.shorter in let less2 = y.shorter in let less3 = skips_shorter z.skips in let less4 = skips_shorter z.last.skips in record {
  tree = tree.try i x.block (tree.handler j xs y.block z.handlers) z.last.block;
  rest = z.last.rest;
  is = try x.head x.body y.head y.body z.are z.last.is;
  begins = z.last.begins;
  skips = skips_on x.skips (skips_on y.skips (skips_on z.skips z.last.skips));
  shorter = omega arith;
}

-- a handler follows `try`
try_caught : (n : ℕ) → Spells n → (d i : ℕ) (s r : List PlacedLine) (x : Headed d (line.try i) s) → r ≡ x.rest → length r ≤ n → Fits r → Follows d (Some (line.try i)) r → Spelled d s
try_caught n p d i s r x e lt f (over b t) = absurd cc
try_caught n p d i s r x e lt f (by_elif j c same is m) = absurd cc
try_caught n p d i s r x e lt f (by_else j same is m) = absurd cc
try_caught n p d i s _ x e lt f (by_except {k = k} {r = r} j xs same is m t) =
    caught (subst (Headed d (line.except j xs)) e (headed n p d k (line.except j xs) r (omega arith) same is f))
  where
    caught : Headed d (line.except j xs) x.rest → Spelled d s
    caught y = let less = y.shorter in let size = ap length e in try_spelled d i j xs s x y (handled n p (suc n) d j xs y.rest (omega arith) (omega arith) (fits_behind y.skips (subst Fits e f)) y.follows)

-- a statement with a header, where the lines behind it fit
headed_spelled : (n : ℕ) → Spells n → (d : ℕ) (g : Header) (s : List PlacedLine) → length s ≤ n → Fits s → Headed d g s → goes_on (Some g) ≡ false → Spelled d s
headed_spelled n p d (line.def i v ps a) s lt f x not = record { tree = tree.def i v ps a x.block; rest = x.rest; is = def x.head x.body; begins = nothing_goes_on d (Some (line.def i v ps a)) x.rest refl refl refl x.follows; skips = x.skips; shorter = x.shorter }
headed_spelled n p d (line.class i v) s lt f x not = record { tree = tree.class i v x.block; rest = x.rest; is = class x.head x.body; begins = nothing_goes_on d (Some (line.class i v)) x.rest refl refl refl x.follows; skips = x.skips; shorter = x.shorter }
headed_spelled n p d (line.if i c) s lt f x not = let less = x.shorter in if_spelled d i c s x (branched n p (suc n) d (Some (line.if i c)) x.rest (omega arith) (omega arith) (fits_behind x.skips f) refl x.follows)
headed_spelled n p d (line.elif i c) s lt f x not = absurd cc
headed_spelled n p d (line.else i) s lt f x not = absurd cc
headed_spelled n p d (line.while i c) s lt f x not = let less = x.shorter in while_spelled d i c s x (elsed n p d (Some (line.while i c)) x.rest (omega arith) (fits_behind x.skips f) refl refl x.follows)
headed_spelled n p d (line.for i v c) s lt f x not = let less = x.shorter in for_spelled d i v c s x (elsed n p d (Some (line.for i v c)) x.rest (omega arith) (fits_behind x.skips f) refl refl x.follows)
headed_spelled n p d (line.try i) s lt f x not = let less = x.shorter in try_caught n p d i s x.rest x refl (omega arith) (fits_behind x.skips f) x.follows
headed_spelled n p d (line.except i xs) s lt f x not = absurd cc

-- a line that begins a statement, where the lines behind it fit
line_spelled : (n : ℕ) → Spells n → (d : ℕ) (m : Line) (s : List PlacedLine) → length s < n → Fits (at d m ∷ s) → goes_on (header_of m) ≡ false → Spelled d (at d m ∷ s)
line_spelled n p d (line.simple x) s lt (fit b e f) not = simple_spelled d x s b e
line_spelled n p d (line.header g) s lt f not = headed_spelled n p d g (at d (line.header g) ∷ s) (omega arith) f (headed n p d (at d (line.header g)) g s lt refl refl f) not
line_spelled n p d (line.header_simple g x) s lt f not = headed_spelled n p d g (at d (line.header_simple g x) ∷ s) (omega arith) f (headed n p d (at d (line.header_simple g x)) g s lt refl refl f) not

-- lines that fit begin with a statement, however many they are
all_spelled : (n : ℕ) → Spells n
all_spelled zero d l s lt f same not = absurd (omega arith)
all_spelled (suc n) d l s lt f same not = subst (λ (c : ℕ). Spelled c (l ∷ s)) same (line_spelled n (all_spelled n) l.depth l.line s (omega arith) f not)

-- no line stands in fewer blocks than none
none_outside : (s : List PlacedLine) → IsOutside 0 s → s ≡ []
none_outside s at_end = refl
none_outside s (outside h) = absurd (omega arith)

-- a first line with no fault begins a statement in no block
first_begins : (s : List PlacedLine) → first_faults s ≡ [] → Begins 0 s
first_begins [] e = ended at_end
first_begins (l ∷ s) e = let a = or_parts _ _ (no_fault _ (number_of l.line) e) in let low = ltb-false 0 l.depth a.0 in anew (omega arith) a.1

-- lines of which none is misplaced spell a block
pub placed_is_module : (s : List PlacedLine) → placement_faults s ≡ [] → (b : Block) × IsModule s b
placed_is_module s e =
    let a = append_none (first_faults s) _ e in
    let x = filled (suc (length s)) (all_spelled (suc (length s))) (suc (length s)) 0 s (omega arith) (omega arith) (fits [] s a.1) (first_begins s a.0) in
    (x.block, subst (λ (r : List PlacedLine). IsBlock 0 s r x.block) (none_outside x.rest x.ends) x.is)
