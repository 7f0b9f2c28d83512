-- Lines are read as the one module that they spell.
use Rattle.std.proofs.Common.{◌≡◌, ℕ, zero, suc, ◌<◌, ◌≤◌, Bool, true, false, List, [], ◌∷◌, length, Option, Some, None, refl, sym, ap, subst, inl, inr, arith, ◌∙◌, ◌==◌}
use Rattle.std.proofs.lemmas.Bool.{eqb-true, eq-eqb, ne_eqb}
use Rattle.spec_trees.specs.Expr.{Expr}
use Rattle.spec_trees.specs.Stmt as line
use Rattle.spec_trees.specs.Stmt.{Simple, Header, Line}
use Rattle.spec_trees.specs.Module as tree
use Rattle.spec_trees.specs.Module.{Statement, Block, Branches, Handlers}
use Rattle.spec_grammar.specs.Blocks.{PlacedLine, IsSimpleLine, simple_line, IsHead, header_line, full_line, catches_all, IsStatement, simple, def, class, if, while, for, try, IsBody, on_the_line, indented, IsBlock, no_statement, statement, IsBranches, no_branch, branch, IsHandlers, no_handler, handler, IsElse, no_else, else, IsModule}
use Rattle.spec_grammar.specs.BlockReading.{ParseLines, with_statement, all_statements, with_branch, all_branches, with_handler, all_handlers, Head, head_of, head_at, elif_of, except_of, else_of, admitted_at, block_with, body_with, branches_with, handlers_with, else_with, tried_with, headed_with, placed_with, statement_with, statement_below, all_lines, module_of}
use Rattle.spec_grammar.proofs.Steps.{some_is, chosen}
use Rattle.spec_grammar.proofs.Sound.{bind_then, given_then, read_as, ListRead, nothing_more}

-- ---- lists

all_with_statement : (b : Block) (e : Statement) (c : Block) → all_statements (with_statement b e) c ≡ all_statements b (tree.statement e c)
all_with_statement tree.no_statement e c = refl
all_with_statement (tree.statement d b) e c = ap (λ v. tree.statement d v) (all_with_statement b e c)

all_no_statement : (b : Block) → all_statements b tree.no_statement ≡ b
all_no_statement tree.no_statement = refl
all_no_statement (tree.statement d b) = ap (λ v. tree.statement d v) (all_no_statement b)

all_with_branch : (bs : Branches) (n : ℕ) (e : Expr) (b : Block) (cs : Branches) → all_branches (with_branch bs n e b) cs ≡ all_branches bs (tree.branch n e b cs)
all_with_branch tree.no_branch n e b cs = refl
all_with_branch (tree.branch m d c bs) n e b cs = ap (λ v. tree.branch m d c v) (all_with_branch bs n e b cs)

all_no_branch : (bs : Branches) → all_branches bs tree.no_branch ≡ bs
all_no_branch tree.no_branch = refl
all_no_branch (tree.branch m d c bs) = ap (λ v. tree.branch m d c v) (all_no_branch bs)

all_with_handler : (hs : Handlers) (n : ℕ) (xs : List (List ℕ)) (b : Block) (gs : Handlers) → all_handlers (with_handler hs n xs b) gs ≡ all_handlers hs (tree.handler n xs b gs)
all_with_handler tree.no_handler n xs b gs = refl
all_with_handler (tree.handler m ys c hs) n xs b gs = ap (λ v. tree.handler m ys c v) (all_with_handler hs n xs b gs)

all_no_handler : (hs : Handlers) → all_handlers hs tree.no_handler ≡ hs
all_no_handler tree.no_handler = refl
all_no_handler (tree.handler m ys c hs) = ap (λ v. tree.handler m ys c v) (all_no_handler hs)

-- ---- heads

same_depth : (d : ℕ) → (d == d) ≡ true
same_depth d = eq-eqb d d refl

head_is : {d : ℕ} {s t : List PlacedLine} {h : Header} {o : Option Simple} → IsHead d s t h o → head_at d s ≡ Some (let x : Head = (h, o, t) in x)
head_is (header_line {d = d}) = rw (same_depth d) refl
head_is (full_line {d = d}) = rw (same_depth d) refl

is_head : (d : ℕ) (s : List PlacedLine) (x : Head) → head_at d s ≡ Some x → IsHead d s x.2 x.0 x.1
is_head d [] x e = absurd cc
is_head d (l ∷ s) x e =
    elim (chosen (l.depth == d) (head_of l.line s) None (Some x) e) [
      | inl p ↦ by_line l.depth l.line (eqb-true l.depth d p.0) p.1
      | inr p ↦ absurd cc
    ]
  where
    by_line : (k : ℕ) (m : Line) → k ≡ d → head_of m s ≡ Some x → IsHead d (record { depth = k; line = m } ∷ s) x.2 x.0 x.1
    by_line k (line.simple y) same e = absurd cc
    by_line k (line.header h) same e = subst (λ (j : ℕ). IsHead d (record { depth = j; line = line.header h } ∷ s) x.2 x.0 x.1) (sym same) (subst (λ (z : Head). IsHead d (record { depth = d; line = line.header h } ∷ s) z.2 z.0 z.1) (some_is (h, None, s) x e) header_line)
    by_line k (line.header_simple h y) same e = subst (λ (j : ℕ). IsHead d (record { depth = j; line = line.header_simple h y } ∷ s) x.2 x.0 x.1) (sym same) (subst (λ (z : Head). IsHead d (record { depth = d; line = line.header_simple h y } ∷ s) z.2 z.0 z.1) (some_is (h, Some y, s) x e) full_line)

admitted_then : {A P : Type 0} (f : Header → Option A) (d : ℕ) (s : List PlacedLine) (c : A × Option Simple × List PlacedLine) → admitted_at f d s ≡ Some c → ((h : Header) → IsHead d s c.2 h c.1 → f h ≡ Some c.0 → P) → P
admitted_then {A} {P} f d s c e g =
    bind_then (head_at d s) _ _ e (λ h found rest.
    bind_then (f h.0) _ _ rest (λ x is same.
    let all : ((let y : A × Option Simple × List PlacedLine = (x, h.1, h.2) in y) ≡ c) = some_is (x, h.1, h.2) c same in
    let both : IsHead d s c.2 h.0 c.1 × (f h.0 ≡ Some c.0) = subst (λ (y : A × Option Simple × List PlacedLine). IsHead d s y.2 h.0 y.1 × (f h.0 ≡ Some y.0)) all (is_head d s h found, is) in
    g h.0 both.0 both.1))

admitted_none : {A : Type 0} (f : Header → Option A) {d : ℕ} {s t : List PlacedLine} {h : Header} {o : Option Simple} → IsHead d s t h o → f h ≡ None → admitted_at f d s ≡ None
admitted_none f i e = rw (head_is i, e) refl

admitted_is : {A : Type 0} (f : Header → Option A) {d : ℕ} {s t : List PlacedLine} {h : Header} {o : Option Simple} {x : A} → IsHead d s t h o → f h ≡ Some x → admitted_at f d s ≡ Some (let y : A × Option Simple × List PlacedLine = (x, o, t) in y)
admitted_is f i e = rw (head_is i, e) refl

elif_is : (h : Header) (x : ℕ × Expr) → elif_of h ≡ Some x → h ≡ line.elif x.0 x.1
elif_is (line.elif n e) x is = ap (λ (y : ℕ × Expr). line.elif y.0 y.1) (some_is (n, e) x is)
elif_is _ x is = absurd cc

except_is : (h : Header) (x : ℕ × List (List ℕ)) → except_of h ≡ Some x → h ≡ line.except x.0 x.1
except_is (line.except n xs) x is = ap (λ (y : ℕ × List (List ℕ)). line.except y.0 y.1) (some_is (n, xs) x is)
except_is _ x is = absurd cc

else_is : (h : Header) (n : ℕ) → else_of h ≡ Some n → h ≡ line.else n
else_is (line.else m) n is = ap line.else (some_is m n is)
else_is _ n is = absurd cc

-- ---- what is read is a statement

-- p reads statements alone
abbrev ReadsStatements : (ℕ → ParseLines Statement) → Type 0
ReadsStatements p = (d : ℕ) (s : List PlacedLine) (x : Statement × List PlacedLine) → p d s ≡ Some x → IsStatement d s x.1 x.0

block_sound : (p : ℕ → ParseLines Statement) → ReadsStatements p → (d k : ℕ) (b : Block) (s : List PlacedLine) (x : Block × List PlacedLine) → block_with (p d) k b s ≡ Some x → ListRead (IsBlock d) all_statements b s x
unfolding block_with
block_sound p h d zero b s x e = absurd cc
block_sound p h d (suc k) b s x e =
    given_then (p d s) _ _ _ e
    (λ y read rest. let c = block_sound p h d k (with_statement b y.0) y.1 x rest in
    record { ys = tree.statement y.0 c.ys; is = statement (h d s y read) c.is; whole = c.whole ∙ all_with_statement b y.0 c.ys })
    (λ not same. nothing_more (IsBlock d) all_statements b s s x tree.no_statement no_statement (sym (all_no_statement b)) same)

body_sound : (p : ℕ → ParseLines Statement) → ReadsStatements p → (k d : ℕ) (o : Option Simple) (s : List PlacedLine) (x : Block × List PlacedLine) → body_with p k d o s ≡ Some x → IsBody d o s x.1 x.0
unfolding body_with
body_sound p h k d (Some y) s x e = read_as (IsBody d (Some y) s) e on_the_line
body_sound p h k d None s x e = bind_then (p (suc d) s) _ _ e (λ y read rest.
    let c = block_sound p h (suc d) k (tree.statement y.0 tree.no_statement) y.1 x rest in
    subst (λ v. IsBody d None s x.1 v) (sym c.whole) (indented (h (suc d) s y read) c.is))

branches_sound : (p : ℕ → ParseLines Statement) → ReadsStatements p → (k d n : ℕ) (bs : Branches) (s : List PlacedLine) (x : Branches × List PlacedLine) → branches_with p k d n bs s ≡ Some x → ListRead (IsBranches d) all_branches bs s x
unfolding branches_with
branches_sound p h k d zero bs s x e = absurd cc
branches_sound p h k d (suc n) bs s x e =
    given_then (admitted_at elif_of d s) _ _ _ e
    (λ c found rest. bind_then (body_with p k d c.1 c.2) _ _ rest (λ b read after.
    let r = branches_sound p h k d n (with_branch bs c.0.0 c.0.1 b.0) b.1 x after in
    admitted_then elif_of d s c found (λ g i is.
    record {
      ys = tree.branch c.0.0 c.0.1 b.0 r.ys;
      is = branch (subst (λ v. IsHead d s c.2 v c.1) (elif_is g c.0 is) i) (body_sound p h k d c.1 c.2 b read) r.is;
      whole = r.whole ∙ all_with_branch bs c.0.0 c.0.1 b.0 r.ys;
    })))
    (λ not same. nothing_more (IsBranches d) all_branches bs s s x tree.no_branch no_branch (sym (all_no_branch bs)) same)

handlers_sound : (p : ℕ → ParseLines Statement) → ReadsStatements p → (k d n : ℕ) (f : Bool) (hs : Handlers) (s : List PlacedLine) (x : Handlers × List PlacedLine) → handlers_with p k d n f hs s ≡ Some x → ListRead (IsHandlers d f) all_handlers hs s x
unfolding handlers_with
handlers_sound p h k d zero f hs s x e = absurd cc
handlers_sound p h k d (suc n) true hs s x e = nothing_more (IsHandlers d true) all_handlers hs s s x tree.no_handler no_handler (sym (all_no_handler hs)) e
handlers_sound p h k d (suc n) false hs s x e =
    given_then (admitted_at except_of d s) _ _ _ e
    (λ c found rest. bind_then (body_with p k d c.1 c.2) _ _ rest (λ b read after.
    let r = handlers_sound p h k d n (catches_all c.0.1) (with_handler hs c.0.0 c.0.1 b.0) b.1 x after in
    admitted_then except_of d s c found (λ g i is.
    record {
      ys = tree.handler c.0.0 c.0.1 b.0 r.ys;
      is = handler (subst (λ v. IsHead d s c.2 v c.1) (except_is g c.0 is) i) (body_sound p h k d c.1 c.2 b read) r.is;
      whole = r.whole ∙ all_with_handler hs c.0.0 c.0.1 b.0 r.ys;
    })))
    (λ not same. nothing_more (IsHandlers d false) all_handlers hs s s x tree.no_handler no_handler (sym (all_no_handler hs)) same)

else_sound : (p : ℕ → ParseLines Statement) → ReadsStatements p → (k d : ℕ) (s : List PlacedLine) (x : Block × List PlacedLine) → else_with p k d s ≡ Some x → IsElse d s x.1 x.0
unfolding else_with
else_sound p h k d s x e =
    given_then (admitted_at else_of d s) _ _ _ e
    (λ c found rest. admitted_then else_of d s c found (λ g i is. else (subst (λ v. IsHead d s c.2 v c.1) (else_is g c.0 is) i) (body_sound p h k d c.1 c.2 x rest)))
    (λ not same. read_as (IsElse d s) same no_else)

tried_sound : (p : ℕ → ParseLines Statement) → ReadsStatements p → (k d n : ℕ) {s t u : List PlacedLine} {o : Option Simple} {b : Block} (x : Statement × List PlacedLine) → IsHead d s t (line.try n) o → IsBody d o t u b → tried_with p k d n b u ≡ Some x → IsStatement d s x.1 x.0
unfolding tried_with
tried_sound p h k d n {s = s} {u = u} {b = b} x i j e =
    bind_then (admitted_at except_of d u) _ _ e (λ c found rest.
    bind_then (body_with p k d c.1 c.2) _ _ rest (λ f read rest2.
    bind_then (handlers_with p k d k (catches_all c.0.1) (tree.handler c.0.0 c.0.1 f.0 tree.no_handler) f.1) _ _ rest2 (λ hs caught rest3.
    bind_then (else_with p k d hs.1) _ _ rest3 (λ g read2 same.
    let r = handlers_sound p h k d k (catches_all c.0.1) (tree.handler c.0.0 c.0.1 f.0 tree.no_handler) f.1 hs caught in
    admitted_then except_of d u c found (λ q head is.
    read_as (IsStatement d s) same (subst (λ v. IsStatement d s g.1 (tree.try n b v g.0)) (sym r.whole) (try i j (subst (λ v. IsHead d u c.2 v c.1) (except_is q c.0 is) head) (body_sound p h k d c.1 c.2 f read) r.is (else_sound p h k d hs.1 g read2))))))))

headed_sound : (p : ℕ → ParseLines Statement) → ReadsStatements p → (k d : ℕ) {s : List PlacedLine} (g : Header) (o : Option Simple) (t : List PlacedLine) (x : Statement × List PlacedLine) → IsHead d s t g o → headed_with p k d g o t ≡ Some x → IsStatement d s x.1 x.0
unfolding headed_with
headed_sound p h k d {s = s} (line.def n y ps a) o t x i e = bind_then (body_with p k d o t) _ _ e (λ b read same. read_as (IsStatement d s) same (def i (body_sound p h k d o t b read)))
headed_sound p h k d {s = s} (line.class n y) o t x i e = bind_then (body_with p k d o t) _ _ e (λ b read same. read_as (IsStatement d s) same (class i (body_sound p h k d o t b read)))
headed_sound p h k d {s = s} (line.if n c) o t x i e =
    bind_then (body_with p k d o t) _ _ e (λ b read rest.
    bind_then (branches_with p k d k tree.no_branch b.1) _ _ rest (λ bs read2 rest2.
    bind_then (else_with p k d bs.1) _ _ rest2 (λ f read3 same.
    let r = branches_sound p h k d k tree.no_branch b.1 bs read2 in
    read_as (IsStatement d s) same (subst (λ v. IsStatement d s f.1 (tree.if n c b.0 v f.0)) (sym r.whole) (if i (body_sound p h k d o t b read) r.is (else_sound p h k d bs.1 f read3))))))
headed_sound p h k d (line.elif n c) o t x i e = absurd cc
headed_sound p h k d (line.else n) o t x i e = absurd cc
headed_sound p h k d {s = s} (line.while n c) o t x i e =
    bind_then (body_with p k d o t) _ _ e (λ b read rest.
    bind_then (else_with p k d b.1) _ _ rest (λ f read2 same.
    read_as (IsStatement d s) same (while i (body_sound p h k d o t b read) (else_sound p h k d b.1 f read2))))
headed_sound p h k d {s = s} (line.for n y c) o t x i e =
    bind_then (body_with p k d o t) _ _ e (λ b read rest.
    bind_then (else_with p k d b.1) _ _ rest (λ f read2 same.
    read_as (IsStatement d s) same (for i (body_sound p h k d o t b read) (else_sound p h k d b.1 f read2))))
headed_sound p h k d (line.try n) o t x i e = bind_then (body_with p k d o t) _ _ e (λ b read rest. tried_sound p h k d n x i (body_sound p h k d o t b read) rest)
headed_sound p h k d (line.except n xs) o t x i e = absurd cc

placed_sound : (p : ℕ → ParseLines Statement) → ReadsStatements p → (k d : ℕ) (m : Line) (s : List PlacedLine) (x : Statement × List PlacedLine) → placed_with p k d m s ≡ Some x → IsStatement d (record { depth = d; line = m } ∷ s) x.1 x.0
unfolding placed_with
placed_sound p h k d (line.simple y) s x e = read_as (IsStatement d (record { depth = d; line = line.simple y } ∷ s)) e (simple simple_line)
placed_sound p h k d (line.header g) s x e = headed_sound p h k d g None s x header_line e
placed_sound p h k d (line.header_simple g y) s x e = headed_sound p h k d g (Some y) s x full_line e

statement_sound : (p : ℕ → ParseLines Statement) → ReadsStatements p → (k d : ℕ) (s : List PlacedLine) (x : Statement × List PlacedLine) → statement_with p k d s ≡ Some x → IsStatement d s x.1 x.0
unfolding statement_with
statement_sound p h k d [] x e = absurd cc
statement_sound p h k d (l ∷ s) x e =
    elim (chosen (l.depth == d) (placed_with p k d l.line s) None (Some x) e) [
      | inl q ↦ subst (λ (j : ℕ). IsStatement d (record { depth = j; line = l.line } ∷ s) x.1 x.0) (sym (eqb-true l.depth d q.0)) (placed_sound p h k d l.line s x q.1)
      | inr q ↦ absurd cc
    ]

below_sound : (n : ℕ) → ReadsStatements (statement_below n)
unfolding statement_below
below_sound zero d s x e = absurd cc
below_sound (suc n) d s x e = statement_sound (statement_below n) (below_sound n) (suc n) d s x e

-- ---- lengths

head_shorter : {d : ℕ} {s t : List PlacedLine} {h : Header} {o : Option Simple} → IsHead d s t h o → length t < length s
head_shorter header_line = omega arith
head_shorter full_line = omega arith

simple_shorter : {d : ℕ} {s t : List PlacedLine} {x : Simple} → IsSimpleLine d s t x → length t < length s
simple_shorter simple_line = omega arith

mutual
  statement_shorter : {d : ℕ} {s r : List PlacedLine} {e : Statement} → IsStatement d s r e → length r < length s
  statement_shorter (simple i) = simple_shorter i
  statement_shorter (def i b) = omega (arith, head_shorter i, body_shorter b)
  statement_shorter (class i b) = omega (arith, head_shorter i, body_shorter b)
  statement_shorter (if i b c f) = omega (arith, head_shorter i, body_shorter b, branches_shorter c, else_shorter f)
  statement_shorter (while i b f) = omega (arith, head_shorter i, body_shorter b, else_shorter f)
  statement_shorter (for i b f) = omega (arith, head_shorter i, body_shorter b, else_shorter f)
  statement_shorter (try i b j c h f) = omega (arith, head_shorter i, body_shorter b, head_shorter j, body_shorter c, handlers_shorter h, else_shorter f)

  body_shorter : {d : ℕ} {o : Option Simple} {s r : List PlacedLine} {b : Block} → IsBody d o s r b → length r ≤ length s
  body_shorter on_the_line = omega arith
  body_shorter (indented e b) = omega (arith, statement_shorter e, block_shorter b)

  block_shorter : {d : ℕ} {s r : List PlacedLine} {b : Block} → IsBlock d s r b → length r ≤ length s
  block_shorter no_statement = omega arith
  block_shorter (statement e b) = omega (arith, statement_shorter e, block_shorter b)

  branches_shorter : {d : ℕ} {s r : List PlacedLine} {bs : Branches} → IsBranches d s r bs → length r ≤ length s
  branches_shorter no_branch = omega arith
  branches_shorter (branch i b c) = omega (arith, head_shorter i, body_shorter b, branches_shorter c)

  handlers_shorter : {d : ℕ} {f : Bool} {s r : List PlacedLine} {hs : Handlers} → IsHandlers d f s r hs → length r ≤ length s
  handlers_shorter no_handler = omega arith
  handlers_shorter (handler i b c) = omega (arith, head_shorter i, body_shorter b, handlers_shorter c)

  else_shorter : {d : ℕ} {s r : List PlacedLine} {b : Block} → IsElse d s r b → length r ≤ length s
  else_shorter no_else = omega arith
  else_shorter (else i b) = omega (arith, head_shorter i, body_shorter b)

-- ---- what is a statement is read

-- the lines do not go on in a block that is d deep
abbrev Outside : ℕ → List PlacedLine → Type 0
Outside d [] = Unit {0}
Outside d (l ∷ s) = l.depth < d

-- nothing at the front of the lines goes on with a statement in d blocks
record Ends (d : ℕ) (s : List PlacedLine) : Type 0 where
  pub outside : Outside (suc d) s
  pub no_elif : admitted_at elif_of d s ≡ None
  pub no_except : admitted_at except_of d s ≡ None
  pub no_else : admitted_at else_of d s ≡ None

outside_none : {A : Type 0} (f : Header → Option A) (d : ℕ) (s : List PlacedLine) → Outside d s → admitted_at f d s ≡ None
outside_none f d [] h = refl
outside_none f d (l ∷ s) h = rw (ne_eqb l.depth d (λ e. omega arith)) refl

outside_more : (d : ℕ) (s : List PlacedLine) → Outside d s → Outside (suc d) s
outside_more d [] h = tt
outside_more d (l ∷ s) h = omega arith

outside_ends : (d : ℕ) (s : List PlacedLine) → Outside d s → Ends d s
outside_ends d s h = record { outside = outside_more d s h; no_elif = outside_none elif_of d s h; no_except = outside_none except_of d s h; no_else = outside_none else_of d s h }

head_outside : {d : ℕ} {s t : List PlacedLine} {h : Header} {o : Option Simple} → IsHead d s t h o → Outside (suc d) s
head_outside header_line = omega arith
head_outside full_line = omega arith

head_ends : {d : ℕ} {s t : List PlacedLine} {h : Header} {o : Option Simple} → IsHead d s t h o → elif_of h ≡ None → except_of h ≡ None → else_of h ≡ None → Ends d s
head_ends i e f g = record { outside = head_outside i; no_elif = admitted_none elif_of i e; no_except = admitted_none except_of i f; no_else = admitted_none else_of i g }

simple_none : {A : Type 0} (f : Header → Option A) {d : ℕ} {s t : List PlacedLine} {x : Simple} → IsSimpleLine d s t x → admitted_at f d s ≡ None
simple_none f (simple_line {d = d}) = rw (same_depth d) refl

simple_ends : {d : ℕ} {s t : List PlacedLine} {x : Simple} → IsSimpleLine d s t x → Ends d s
simple_ends {d = d} {s = s} i = record { outside = below i; no_elif = simple_none elif_of i; no_except = simple_none except_of i; no_else = simple_none else_of i }
  where
    below : {d : ℕ} {s t : List PlacedLine} {x : Simple} → IsSimpleLine d s t x → Outside (suc d) s
    below simple_line = omega arith

-- a statement does not begin with what goes on with another one
statement_ends : {d : ℕ} {s r : List PlacedLine} {e : Statement} → IsStatement d s r e → Ends d s
statement_ends (simple i) = simple_ends i
statement_ends (def i b) = head_ends i refl refl refl
statement_ends (class i b) = head_ends i refl refl refl
statement_ends (if i b c f) = head_ends i refl refl refl
statement_ends (while i b f) = head_ends i refl refl refl
statement_ends (for i b f) = head_ends i refl refl refl
statement_ends (try i b j c h f) = head_ends i refl refl refl

block_ends : {d : ℕ} {s r : List PlacedLine} {b : Block} → IsBlock d s r b → Outside d r → Ends d s
block_ends (no_statement {d = d} {r = r}) h = outside_ends d r h
block_ends (statement e b) h = statement_ends e

else_outside : {d : ℕ} {s r : List PlacedLine} {b : Block} → IsElse d s r b → Ends d r → Outside (suc d) s
else_outside no_else h = h.outside
else_outside (else i b) h = head_outside i

else_no_elif : {d : ℕ} {s r : List PlacedLine} {b : Block} → IsElse d s r b → Ends d r → admitted_at elif_of d s ≡ None
else_no_elif no_else h = h.no_elif
else_no_elif (else i b) h = admitted_none elif_of i refl

else_no_except : {d : ℕ} {s r : List PlacedLine} {b : Block} → IsElse d s r b → Ends d r → admitted_at except_of d s ≡ None
else_no_except no_else h = h.no_except
else_no_except (else i b) h = admitted_none except_of i refl

branches_outside : {d : ℕ} {s r : List PlacedLine} {bs : Branches} → IsBranches d s r bs → Outside (suc d) r → Outside (suc d) s
branches_outside no_branch h = h
branches_outside (branch i b c) h = head_outside i

handlers_outside : {d : ℕ} {f : Bool} {s r : List PlacedLine} {hs : Handlers} → IsHandlers d f s r hs → Outside (suc d) r → Outside (suc d) s
handlers_outside no_handler h = h
handlers_outside (handler i b c) h = head_outside i

-- p reads the statements of fewer than n lines, and nothing outside of their block
record IsFull (p : ℕ → ParseLines Statement) (n : ℕ) : Type 0 where
  pub read : (d : ℕ) (s r : List PlacedLine) (e : Statement) → length s < n → IsStatement d s r e → Ends d r → p d s ≡ Some (e, r)
  pub nothing : (d : ℕ) (s : List PlacedLine) → Outside d s → p d s ≡ None

block_full : (p : ℕ → ParseLines Statement) (n : ℕ) → IsFull p n → (d k : ℕ) (b : Block) (s r : List PlacedLine) (c : Block) → length s < k → length s < n → IsBlock d s r c → Outside d r → block_with (p d) k b s ≡ Some (all_statements b c, r)
unfolding block_with
block_full p n h d zero b s r c lt lt2 i st = absurd (omega arith)
block_full p n h d (suc k) b s r c lt lt2 no_statement st = rw (h.nothing d s st, all_no_statement b) refl
block_full p n h d (suc k) b s r c lt lt2 (statement {m = m} {e = e} {b = f} i j) st =
    let less = statement_shorter i in
    rw (h.read d s m e lt2 i (block_ends j st)) (block_full p n h d k (with_statement b e) m r f (omega arith) (omega arith) j st ∙ ap (λ (v : Block). Some (v, r)) (all_with_statement b e f))

body_full : (p : ℕ → ParseLines Statement) (n k : ℕ) → IsFull p n → n < k → (d : ℕ) (o : Option Simple) (s r : List PlacedLine) (b : Block) → length s < n → IsBody d o s r b → Outside (suc d) r → body_with p k d o s ≡ Some (b, r)
unfolding body_with
body_full p n k h nk d o s r b lt on_the_line st = refl
body_full p n k h nk d o s r b lt (indented {m = m} {e = e} {b = f} i j) st =
    let less = statement_shorter i in
    rw (h.read (suc d) s m e lt i (block_ends j st)) (block_full p n h (suc d) k (tree.statement e tree.no_statement) m r f (omega arith) (omega arith) j st)

branches_full : (p : ℕ → ParseLines Statement) (n k : ℕ) → IsFull p n → n < k → (d j : ℕ) (bs : Branches) (s r : List PlacedLine) (cs : Branches) → length s < j → length s ≤ n → IsBranches d s r cs → Outside (suc d) r → admitted_at elif_of d r ≡ None → branches_with p k d j bs s ≡ Some (all_branches bs cs, r)
unfolding branches_with
branches_full p n k h nk d zero bs s r cs lt le i st f = absurd (omega arith)
branches_full p n k h nk d (suc j) bs s r cs lt le no_branch st f = rw (f, all_no_branch bs) refl
branches_full p n k h nk d (suc j) bs s r cs lt le (branch {n = i} {t = t} {m = m} {e = e} {o = o} {b = b} {bs = ds} q body c) st f =
    let less = head_shorter q in
    let less2 = body_shorter body in
    rw (admitted_is elif_of {x = (let y : ℕ × Expr = (i, e) in y)} q refl, body_full p n k h nk d o t m b (omega arith) body (branches_outside c st)) (branches_full p n k h nk d j (with_branch bs i e b) m r ds (omega arith) (omega arith) c st f ∙ ap (λ (v : Branches). Some (v, r)) (all_with_branch bs i e b ds))

handlers_full : (p : ℕ → ParseLines Statement) (n k : ℕ) → IsFull p n → n < k → (d j : ℕ) (all : Bool) (hs : Handlers) (s r : List PlacedLine) (gs : Handlers) → length s < j → length s ≤ n → IsHandlers d all s r gs → Outside (suc d) r → admitted_at except_of d r ≡ None → handlers_with p k d j all hs s ≡ Some (all_handlers hs gs, r)
unfolding handlers_with
handlers_full p n k h nk d zero all hs s r gs lt le i st f = absurd (omega arith)
handlers_full p n k h nk d (suc j) true hs s r gs lt le no_handler st f = rw (all_no_handler hs) refl
handlers_full p n k h nk d (suc j) false hs s r gs lt le no_handler st f = rw (f, all_no_handler hs) refl
handlers_full p n k h nk d (suc j) false hs s r gs lt le (handler {n = i} {t = t} {m = m} {xs = xs} {o = o} {b = b} {hs = fs} q body c) st f =
    let less = head_shorter q in
    let less2 = body_shorter body in
    rw (admitted_is except_of {x = (let y : ℕ × List (List ℕ) = (i, xs) in y)} q refl, body_full p n k h nk d o t m b (omega arith) body (handlers_outside c st)) (handlers_full p n k h nk d j (catches_all xs) (with_handler hs i xs b) m r fs (omega arith) (omega arith) c st f ∙ ap (λ (v : Handlers). Some (v, r)) (all_with_handler hs i xs b fs))

else_full : (p : ℕ → ParseLines Statement) (n k : ℕ) → IsFull p n → n < k → (d : ℕ) (s r : List PlacedLine) (b : Block) → length s ≤ n → IsElse d s r b → Ends d r → else_with p k d s ≡ Some (b, r)
unfolding else_with
else_full p n k h nk d s r b le no_else st = rw st.no_else refl
else_full p n k h nk d s r b le (else {n = i} {t = t} {o = o} q body) st =
    let less = head_shorter q in
    rw (admitted_is else_of {x = i} q refl) (body_full p n k h nk d o t r b (omega arith) body st.outside)

tried_full : (p : ℕ → ParseLines Statement) (n k : ℕ) → IsFull p n → n < k → (d i j : ℕ) (b c f : Block) (u v w y r : List PlacedLine) (xs : List (List ℕ)) (o : Option Simple) (hs : Handlers) → length u ≤ n → IsHead d u v (line.except j xs) o → IsBody d o v w c → IsHandlers d (catches_all xs) w y hs → IsElse d y r f → Ends d r → tried_with p k d i b u ≡ Some (tree.try i b (tree.handler j xs c hs) f, r)
unfolding tried_with
tried_full p n k h nk d i j b c f u v w y r xs o hs le q body caught last st =
    let less = head_shorter q in
    let less2 = body_shorter body in
    let less3 = handlers_shorter caught in
    let out : Outside (suc d) y = else_outside last st in
    rw (admitted_is except_of {x = (let z : ℕ × List (List ℕ) = (j, xs) in z)} q refl, body_full p n k h nk d o v w c (omega arith) body (handlers_outside caught out), handlers_full p n k h nk d k (catches_all xs) (tree.handler j xs c tree.no_handler) w y hs (omega arith) (omega arith) caught out (else_no_except last st), else_full p n k h nk d y r f (omega arith) last st) refl

-- the line at the front, with its depth
placed_is : (p : ℕ → ParseLines Statement) (k d : ℕ) {s t : List PlacedLine} {g : Header} {o : Option Simple} → IsHead d s t g o → statement_with p k d s ≡ headed_with p k d g o t
unfolding statement_with placed_with
placed_is p k d header_line = rw (same_depth d) refl
placed_is p k d full_line = rw (same_depth d) refl

statement_full : (p : ℕ → ParseLines Statement) (n k : ℕ) → IsFull p n → n < k → (d : ℕ) (s r : List PlacedLine) (e : Statement) → length s ≤ n → IsStatement d s r e → Ends d r → statement_with p k d s ≡ Some (e, r)
unfolding statement_with placed_with headed_with
statement_full p n k h nk d s r e le (simple simple_line) st = rw (same_depth d) refl
statement_full p n k h nk d s r e le (def {t = t} {o = o} {b = b} i body) st =
    let less = head_shorter i in
    placed_is p k d i ∙ rw (body_full p n k h nk d o t r b (omega arith) body st.outside) refl
statement_full p n k h nk d s r e le (class {t = t} {o = o} {b = b} i body) st =
    let less = head_shorter i in
    placed_is p k d i ∙ rw (body_full p n k h nk d o t r b (omega arith) body st.outside) refl
statement_full p n k h nk d s r e le (if {t = t} {u = u} {v = v} {o = o} {b = b} {c = c} {bs = bs} i body others last) st =
    let less = head_shorter i in
    let less2 = body_shorter body in
    let less3 = branches_shorter others in
    let out : Outside (suc d) v = else_outside last st in
    placed_is p k d i ∙ rw (body_full p n k h nk d o t u b (omega arith) body (branches_outside others out), branches_full p n k h nk d k tree.no_branch u v bs (omega arith) (omega arith) others out (else_no_elif last st), else_full p n k h nk d v r c (omega arith) last st) refl
statement_full p n k h nk d s r e le (while {t = t} {u = u} {o = o} {b = b} {c = c} i body last) st =
    let less = head_shorter i in
    let less2 = body_shorter body in
    placed_is p k d i ∙ rw (body_full p n k h nk d o t u b (omega arith) body (else_outside last st), else_full p n k h nk d u r c (omega arith) last st) refl
statement_full p n k h nk d s r e le (for {t = t} {u = u} {o = o} {b = b} {c = c} i body last) st =
    let less = head_shorter i in
    let less2 = body_shorter body in
    placed_is p k d i ∙ rw (body_full p n k h nk d o t u b (omega arith) body (else_outside last st), else_full p n k h nk d u r c (omega arith) last st) refl
statement_full p n k h nk d s r e le (try {n = i} {k = j} {t = t} {u = u} {v = v} {w = w} {y = y} {xs = xs} {o = o} {p = q} {b = b} {c = c} {f = f} {hs = hs} head body first caught others last) st =
    let less = head_shorter head in
    let less2 = body_shorter body in
    placed_is p k d head ∙ rw (body_full p n k h nk d o t u b (omega arith) body (head_outside first)) (tried_full p n k h nk d i j b c f u v w y r xs q hs (omega arith) first caught others last st)

below_full : (n : ℕ) → IsFull (statement_below n) n
unfolding statement_below statement_with
below_full zero = record { read = λ d s r e lt i st. absurd (omega arith); nothing = λ d s h. refl }
below_full (suc n) = record {
  read = λ d s r e lt i st. statement_full (statement_below n) n (suc n) (below_full n) (omega arith) d s r e (omega arith) i st;
  nothing = λ d s h. nowhere d s h;
}
  where
    nowhere : (d : ℕ) (s : List PlacedLine) → Outside d s → statement_with (statement_below n) (suc n) d s ≡ None
    nowhere d [] h = refl
    nowhere d (l ∷ s) h = rw (ne_eqb l.depth d (λ e. omega arith)) refl

-- ---- the laws

all_lines_is : (o : Option (Block × List PlacedLine)) (b : Block) → all_lines o ≡ Some b → o ≡ Some (b, [])
all_lines_is None b e = absurd cc
all_lines_is (Some (c, [])) b e = ap (λ (z : Block). Some (let y : Block × List PlacedLine = (z, []) in y)) (some_is c b e)
all_lines_is (Some (c, l ∷ s)) b e = absurd cc

pub module_is : (s : List PlacedLine) (b : Block) → module_of s ≡ Some b → IsModule s b
unfolding module_of
module_is s b e =
    let read = all_lines_is (block_with (statement_below (suc (length s)) 0) (suc (length s)) tree.no_statement s) b e in
    let c = block_sound (statement_below (suc (length s))) (below_sound (suc (length s))) 0 (suc (length s)) tree.no_statement s (b, []) read in
    subst (λ v. IsBlock 0 s [] v) (sym c.whole) c.is

pub is_module : (s : List PlacedLine) (b : Block) → IsModule s b → module_of s ≡ Some b
unfolding module_of
is_module s b i = rw (block_full (statement_below (suc (length s))) (suc (length s)) (below_full (suc (length s))) 0 (suc (length s)) tree.no_statement s [] b (omega arith) (omega arith) i tt) refl

pub one_module : (s : List PlacedLine) (b c : Block) → IsModule s b → IsModule s c → b ≡ c
one_module s b c g h = some_is b c (sym (is_module s b g) ∙ is_module s c h)
