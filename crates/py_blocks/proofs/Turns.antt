-- The steps of reading blocks, each as one equation of what is read.
use Rattle.std.proofs.Common.{add-one, ◌≡◌, ◌==◌, ℕ, zero, suc, ◌+◌, ◌-◌, ◌<◌, Bool, true, false, List, [], ◌∷◌, ◌≤◌, length, drop, Option, Some, None, Result, refl, ap, subst, arith}
use Rattle.std.proofs.lemmas.Bool.{eq-eqb}
use Rattle.spec_trees.specs.Expr.{Expr}
use Rattle.spec_trees.specs.Stmt as line
use Rattle.spec_trees.specs.Stmt.{TypeExpr, Simple, Parameter, Header, Line}
use Rattle.spec_trees.specs.Module as tree
use Rattle.spec_trees.specs.Module.{Statement, Block, Branches, Handlers}
use Rattle.spec_grammar.specs.Blocks.{PlacedLine, catches_all}
use Rattle.spec_grammar.specs.BlockReading.{ParseLines, Head, with_statement, with_branch, with_handler, head_of, head_at, elif_of, except_of, else_of, admitted_at, block_with, body_with, branches_with, handlers_with, else_with, tried_with, headed_with, placed_with, statement_with, statement_below, module_of}
use Rattle.spec_grammar.proofs.Steps.{some_is}
use Rattle.std.specs.Global.{Vec}
use Rattle.py_tree.specs.declared.ids.StmtId.{StmtId}
use Rattle.py_tree.specs.Arena.{State}
use Rattle.py_words.specs.declared.unread.Unread.{Unread}
use Rattle.py_blocks.specs.Given.{if_behind, while_behind, for_behind, GivesBlock}

-- ---- a statement

pub statement_out : (n d : ℕ) (s : List PlacedLine) → n ≡ 0 → statement_below n d s ≡ None
unfolding statement_below
statement_out n d s e = rw e refl

pub statement_turn : (n d : ℕ) (p : PlacedLine) (s r : List PlacedLine) → 0 < n → s ≡ p ∷ r → p.depth ≡ d → statement_below n d s ≡ placed_with (statement_below (n - 1)) n d p.line r
unfolding statement_below statement_with
statement_turn zero d p s r lt e f = absurd (omega arith)
statement_turn (suc n) d p s r lt e f =
    let g : suc n - 1 ≡ n = omega arith in
    let h : (d == d) ≡ true = eq-eqb d d refl in
    rw (g, e, f, h) refl

pub statement_past : (n d : ℕ) (s : List PlacedLine) → s ≡ [] → statement_below n d s ≡ None
unfolding statement_below statement_with
statement_past zero d s e = refl
statement_past (suc n) d s e = rw e refl

pub statement_elsewhere : (n d : ℕ) (p : PlacedLine) (s r : List PlacedLine) → s ≡ p ∷ r → (p.depth == d) ≡ false → statement_below n d s ≡ None
unfolding statement_below statement_with
statement_elsewhere zero d p s r e f = refl
statement_elsewhere (suc n) d p s r e f = rw (e, f) refl

-- ---- the statements of a block

pub block_turn : (p : ParseLines Statement) (k j : ℕ) (b : Block) (e : Statement) (s r : List PlacedLine) → k ≡ suc j → p s ≡ Some (e, r) → block_with p k b s ≡ block_with p j (with_statement b e) r
unfolding block_with
block_turn p k j b e s r f g = rw (f, g) refl

pub block_end : (p : ParseLines Statement) (k j : ℕ) (b : Block) (s : List PlacedLine) → k ≡ suc j → p s ≡ None → block_with p k b s ≡ Some (b, s)
unfolding block_with
block_end p k j b s f g = rw (f, g) refl

pub block_out : (p : ParseLines Statement) (k : ℕ) (b : Block) (s : List PlacedLine) → k ≡ 0 → block_with p k b s ≡ None
unfolding block_with
block_out p k b s f = rw f refl

-- ---- the block of a header

module _ (p : ℕ → ParseLines Statement) (k d : ℕ) where
  pub suite_own : (x : Simple) (s : List PlacedLine) → body_with p k d (Some x) s ≡ Some (tree.statement (tree.simple x) tree.no_statement, s)
  unfolding body_with
  suite_own x s = refl

  pub suite_none : (s : List PlacedLine) → p (suc d) s ≡ None → body_with p k d None s ≡ None
  unfolding body_with
  suite_none s f = rw f refl

  pub suite_turn : (e : Statement) (s r : List PlacedLine) → p (suc d) s ≡ Some (e, r) → body_with p k d None s ≡ block_with (p (suc d)) k (tree.statement e tree.no_statement) r
  unfolding body_with
  suite_turn e s r f = rw f refl

  pub suite_missed : (s : List PlacedLine) → p (d + 1) s ≡ None → body_with p k d None s ≡ None
  suite_missed s f = suite_none s (subst (λ (v : ℕ). p v s ≡ None) (add-one d) f)

  -- what the statements behind the first give
  pub suite_as : (r : Result (Vec StmtId × ℕ) Unread) (m : State) (ps : List PlacedLine) (e : Statement) (s t : List PlacedLine) → p (d + 1) s ≡ Some (e, t) → GivesBlock m ps r (block_with (p (d + 1)) k (tree.statement e tree.no_statement) t) → GivesBlock m ps r (body_with p k d None s)
  suite_as r m ps e s t f g =
      let same : d + 1 ≡ suc d = add-one d in
      let f2 : p (suc d) s ≡ Some (e, t) = subst (λ (v : ℕ). p v s ≡ Some (e, t)) same f in
      rw (suite_turn e s t f2) (subst (λ (v : ℕ). GivesBlock m ps r (block_with (p v) k (tree.statement e tree.no_statement) t)) same g)

  -- ---- branches

  pub branches_turn : (i j : ℕ) (bs : Branches) (n : ℕ) (e : Expr) (o : Option Simple) (b : Block) (s t r : List PlacedLine) → i ≡ suc j → admitted_at elif_of d s ≡ Some ((n, e), o, t) → body_with p k d o t ≡ Some (b, r) → branches_with p k d i bs s ≡ branches_with p k d j (with_branch bs n e b) r
  unfolding branches_with
  branches_turn i j bs n e o b s t r f g h = rw (f, g, h) refl

  pub branches_stuck : (i j : ℕ) (bs : Branches) (n : ℕ) (e : Expr) (o : Option Simple) (s t : List PlacedLine) → i ≡ suc j → admitted_at elif_of d s ≡ Some ((n, e), o, t) → body_with p k d o t ≡ None → branches_with p k d i bs s ≡ None
  unfolding branches_with
  branches_stuck i j bs n e o s t f g h = rw (f, g, h) refl

  pub branches_end : (i j : ℕ) (bs : Branches) (s : List PlacedLine) → i ≡ suc j → admitted_at elif_of d s ≡ None → branches_with p k d i bs s ≡ Some (bs, s)
  unfolding branches_with
  branches_end i j bs s f g = rw (f, g) refl

  pub branches_out : (i : ℕ) (bs : Branches) (s : List PlacedLine) → i ≡ 0 → branches_with p k d i bs s ≡ None
  unfolding branches_with
  branches_out i bs s f = rw f refl

  -- ---- handlers

  pub handlers_turn : (i j : ℕ) (l : Bool) (hs : Handlers) (n : ℕ) (xs : List (List ℕ)) (o : Option Simple) (b : Block) (s t r : List PlacedLine) → i ≡ suc j → l ≡ false → admitted_at except_of d s ≡ Some ((n, xs), o, t) → body_with p k d o t ≡ Some (b, r) → handlers_with p k d i l hs s ≡ handlers_with p k d j (catches_all xs) (with_handler hs n xs b) r
  unfolding handlers_with
  handlers_turn i j l hs n xs o b s t r f a g h = rw (f, a, g, h) refl

  pub handlers_stuck : (i j : ℕ) (l : Bool) (hs : Handlers) (n : ℕ) (xs : List (List ℕ)) (o : Option Simple) (s t : List PlacedLine) → i ≡ suc j → l ≡ false → admitted_at except_of d s ≡ Some ((n, xs), o, t) → body_with p k d o t ≡ None → handlers_with p k d i l hs s ≡ None
  unfolding handlers_with
  handlers_stuck i j l hs n xs o s t f a g h = rw (f, a, g, h) refl

  pub handlers_end : (i j : ℕ) (l : Bool) (hs : Handlers) (s : List PlacedLine) → i ≡ suc j → l ≡ false → admitted_at except_of d s ≡ None → handlers_with p k d i l hs s ≡ Some (hs, s)
  unfolding handlers_with
  handlers_end i j l hs s f a g = rw (f, a, g) refl

  pub handlers_caught : (i j : ℕ) (l : Bool) (hs : Handlers) (s : List PlacedLine) → i ≡ suc j → l ≡ true → handlers_with p k d i l hs s ≡ Some (hs, s)
  unfolding handlers_with
  handlers_caught i j l hs s f a = rw (f, a) refl

  pub handlers_out : (i : ℕ) (l : Bool) (hs : Handlers) (s : List PlacedLine) → i ≡ 0 → handlers_with p k d i l hs s ≡ None
  unfolding handlers_with
  handlers_out i l hs s f = rw f refl

  -- ---- `else`

  pub else_turn : (n : ℕ) (o : Option Simple) (s t : List PlacedLine) → admitted_at else_of d s ≡ Some (n, o, t) → else_with p k d s ≡ body_with p k d o t
  unfolding else_with
  else_turn n o s t f = rw f refl

  pub else_end : (s : List PlacedLine) → admitted_at else_of d s ≡ None → else_with p k d s ≡ Some (tree.no_statement, s)
  unfolding else_with
  else_end s f = rw f refl

  -- ---- behind the block of `try`

  module _ (n : ℕ) (b : Block) where
    pub tried_none : (s : List PlacedLine) → admitted_at except_of d s ≡ None → tried_with p k d n b s ≡ None
    unfolding tried_with
    tried_none s f = rw f refl

    pub tried_no_body : (i : ℕ) (xs : List (List ℕ)) (o : Option Simple) (s t : List PlacedLine) → admitted_at except_of d s ≡ Some ((i, xs), o, t) → body_with p k d o t ≡ None → tried_with p k d n b s ≡ None
    unfolding tried_with
    tried_no_body i xs o s t f g = rw (f, g) refl

    pub tried_no_handlers : (i : ℕ) (xs : List (List ℕ)) (o : Option Simple) (c : Block) (s t u : List PlacedLine) → admitted_at except_of d s ≡ Some ((i, xs), o, t) → body_with p k d o t ≡ Some (c, u) → handlers_with p k d k (catches_all xs) (tree.handler i xs c tree.no_handler) u ≡ None → tried_with p k d n b s ≡ None
    unfolding tried_with
    tried_no_handlers i xs o c s t u f g h = rw (f, g, h) refl

    pub tried_no_else : (i : ℕ) (xs : List (List ℕ)) (o : Option Simple) (c : Block) (hs : Handlers) (s t u v : List PlacedLine) → admitted_at except_of d s ≡ Some ((i, xs), o, t) → body_with p k d o t ≡ Some (c, u) → handlers_with p k d k (catches_all xs) (tree.handler i xs c tree.no_handler) u ≡ Some (hs, v) → else_with p k d v ≡ None → tried_with p k d n b s ≡ None
    unfolding tried_with
    tried_no_else i xs o c hs s t u v f g h e = rw (f, g, h, e) refl

    pub tried_read : (i : ℕ) (xs : List (List ℕ)) (o : Option Simple) (c a : Block) (hs : Handlers) (s t u v r : List PlacedLine) → admitted_at except_of d s ≡ Some ((i, xs), o, t) → body_with p k d o t ≡ Some (c, u) → handlers_with p k d k (catches_all xs) (tree.handler i xs c tree.no_handler) u ≡ Some (hs, v) → else_with p k d v ≡ Some (a, r) → tried_with p k d n b s ≡ Some (tree.try n b hs a, r)
    unfolding tried_with
    tried_read i xs o c a hs s t u v r f g h e = rw (f, g, h, e) refl

-- ---- the header with which lines begin

pub admitted_found : {A : Type 0} (f : Header → Option A) (d : ℕ) (s : List PlacedLine) (h : Head) (x : A) → head_at d s ≡ Some h → f h.0 ≡ Some x → admitted_at f d s ≡ Some (let y : A × Option Simple × List PlacedLine = (x, h.1, h.2) in y)
admitted_found f d s h x e g = rw (e, g) refl

pub admitted_other : {A : Type 0} (f : Header → Option A) (d : ℕ) (s : List PlacedLine) (h : Head) → head_at d s ≡ Some h → f h.0 ≡ None → admitted_at f d s ≡ None
admitted_other f d s h e g = rw (e, g) refl

pub admitted_missed : {A : Type 0} (f : Header → Option A) (d : ℕ) (s : List PlacedLine) → head_at d s ≡ None → admitted_at f d s ≡ None
admitted_missed f d s e = rw e refl

-- ---- what a header begins, behind its first block

module _ (p : ℕ → ParseLines Statement) (k d : ℕ) (o : Option Simple) (s : List PlacedLine) where
  pub headed_stuck : (h : Header) → body_with p k d o s ≡ None → headed_with p k d h o s ≡ None
  unfolding headed_with
  headed_stuck (line.def n x ps a) f = rw f refl
  headed_stuck (line.class n x) f = rw f refl
  headed_stuck (line.if n e) f = rw f refl
  headed_stuck (line.elif n e) f = refl
  headed_stuck (line.else n) f = refl
  headed_stuck (line.while n e) f = rw f refl
  headed_stuck (line.for n x e) f = rw f refl
  headed_stuck (line.try n) f = rw f refl
  headed_stuck (line.except n xs) f = refl

  -- no statement begins with these
  pub headed_elif : (n : ℕ) (e : Expr) → headed_with p k d (line.elif n e) o s ≡ None
  unfolding headed_with
  headed_elif n e = refl

  pub headed_else : (n : ℕ) → headed_with p k d (line.else n) o s ≡ None
  unfolding headed_with
  headed_else n = refl

  pub headed_except : (n : ℕ) (xs : List (List ℕ)) → headed_with p k d (line.except n xs) o s ≡ None
  unfolding headed_with
  headed_except n xs = refl

  module _ (b : Block) (r : List PlacedLine) (f : body_with p k d o s ≡ Some (b, r)) where
    pub headed_def : (n : ℕ) (x : List ℕ) (ps : List Parameter) (a : Option TypeExpr) → headed_with p k d (line.def n x ps a) o s ≡ Some (tree.def n x ps a b, r)
    unfolding headed_with
    headed_def n x ps a = rw f refl

    pub headed_class : (n : ℕ) (x : List ℕ) → headed_with p k d (line.class n x) o s ≡ Some (tree.class n x b, r)
    unfolding headed_with
    headed_class n x = rw f refl

    pub headed_if : (n : ℕ) (e : Expr) → headed_with p k d (line.if n e) o s ≡ if_behind p k d n e b r
    unfolding headed_with
    headed_if n e = rw f refl

    pub headed_while : (n : ℕ) (e : Expr) → headed_with p k d (line.while n e) o s ≡ while_behind p k d n e b r
    unfolding headed_with
    headed_while n e = rw f refl

    pub headed_for : (n : ℕ) (x : List ℕ) (e : Expr) → headed_with p k d (line.for n x e) o s ≡ for_behind p k d n x e b r
    unfolding headed_with
    headed_for n x e = rw f refl

    pub headed_try : (n : ℕ) → headed_with p k d (line.try n) o s ≡ tried_with p k d n b r
    unfolding headed_with
    headed_try n = rw f refl

-- ---- what a statement on the line of a header, or a line, gives

pub placed_simple : (p : ℕ → ParseLines Statement) (k d : ℕ) (x : Simple) (s : List PlacedLine) → placed_with p k d (line.simple x) s ≡ Some (tree.simple x, s)
unfolding placed_with
placed_simple p k d x s = refl

pub placed_header : (p : ℕ → ParseLines Statement) (k d : ℕ) (l : Line) (s : List PlacedLine) (h : Head) → head_of l s ≡ Some h → placed_with p k d l s ≡ headed_with p k d h.0 h.1 h.2
unfolding placed_with
placed_header p k d (line.simple x) s h e = absurd cc
placed_header p k d (line.header g) s h e = ap (λ (y : Head). headed_with p k d y.0 y.1 y.2) (some_is (g, None, s) h e)
placed_header p k d (line.header_simple g x) s h e = ap (λ (y : Head). headed_with p k d y.0 y.1 y.2) (some_is (g, Some x, s) h e)

-- the same classes by another name
pub classes_as : (d i : ℕ) (xs ys : List (List ℕ)) (o : Option Simple) (s t : List PlacedLine) → ys ≡ xs → admitted_at except_of d s ≡ Some ((i, xs), o, t) → admitted_at except_of d s ≡ Some ((i, ys), o, t)
classes_as d i xs ys o s t e f = rw e f

-- ---- the body of a module

pub module_stuck : (s : List PlacedLine) (n : ℕ) (z : Block) → n ≡ length s → z ≡ tree.no_statement → block_with (statement_below (n + 1) 0) (n + 1) z s ≡ None → module_of s ≡ None
unfolding module_of
module_stuck s n z e q f =
    let g : n + 1 ≡ suc (length s) = omega (arith, e) in
    let h : block_with (statement_below (suc (length s)) 0) (suc (length s)) tree.no_statement s ≡ None = subst (λ (v : ℕ). block_with (statement_below v 0) v tree.no_statement s ≡ None) g (subst (λ (v : Block). block_with (statement_below (n + 1) 0) (n + 1) v s ≡ None) q f) in
    rw h refl

pub module_left : (s : List PlacedLine) (n : ℕ) (z b : Block) (l : PlacedLine) (r t : List PlacedLine) → n ≡ length s → z ≡ tree.no_statement → t ≡ l ∷ r → block_with (statement_below (n + 1) 0) (n + 1) z s ≡ Some (b, t) → module_of s ≡ None
unfolding module_of
module_left s n z b l r t e q d f =
    let g : n + 1 ≡ suc (length s) = omega (arith, e) in
    let h : block_with (statement_below (suc (length s)) 0) (suc (length s)) tree.no_statement s ≡ Some (b, t) = subst (λ (v : ℕ). block_with (statement_below v 0) v tree.no_statement s ≡ Some (b, t)) g (subst (λ (v : Block). block_with (statement_below (n + 1) 0) (n + 1) v s ≡ Some (b, t)) q f) in
    rw (h, d) refl

pub module_read : (s : List PlacedLine) (n : ℕ) (z b : Block) (t : List PlacedLine) → n ≡ length s → z ≡ tree.no_statement → t ≡ [] → block_with (statement_below (n + 1) 0) (n + 1) z s ≡ Some (b, t) → module_of s ≡ Some b
unfolding module_of
module_read s n z b t e q d f =
    let g : n + 1 ≡ suc (length s) = omega (arith, e) in
    let h : block_with (statement_below (suc (length s)) 0) (suc (length s)) tree.no_statement s ≡ Some (b, t) = subst (λ (v : ℕ). block_with (statement_below v 0) v tree.no_statement s ≡ Some (b, t)) g (subst (λ (v : Block). block_with (statement_below (n + 1) 0) (n + 1) v s ≡ Some (b, t)) q f) in
    rw (h, d) refl

-- ---- lines that are left

pub none_left : (s : List PlacedLine) (i : ℕ) → length s ≤ i → drop i s ≡ []
none_left [] zero le = refl
none_left [] (suc i) le = refl
none_left (l ∷ s) zero le = absurd (omega arith)
none_left (l ∷ s) (suc i) le = none_left s i (omega arith)

pub some_left : (s : List PlacedLine) (i : ℕ) → i < length s → (l : PlacedLine) × (r : List PlacedLine) × (drop i s ≡ l ∷ r)
some_left [] i lt = absurd (omega arith)
some_left (l ∷ s) zero lt = (l, s, refl)
some_left (l ∷ s) (suc i) lt = some_left s i (omega arith)
