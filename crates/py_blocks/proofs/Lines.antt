-- Lines that were read, at their places.
use Rattle.std.proofs.Common.{add-one, ◌≡◌, ◌==◌, ℕ, zero, suc, ◌+◌, ◌-◌, ◌<◌, Bool, true, false, List, [], ◌∷◌, length, drop, map, Option, Some, None, refl, sym, ap, subst, ◌∙◌, slice_get, ◌⊎◌, inl, inr, if◌then◌else◌, Contains}
use Rattle.std.proofs.lemmas.Bool.{eqb-true}
use Rattle.std.proofs.lemmas.List.Elements.{Contains-append_left, Contains-append_right, Contains-push}
use Rattle.spec_trees.specs.Stmt as statement
use Rattle.spec_trees.specs.Stmt.{Simple, Header, Line}
use Rattle.spec_trees.specs.Module as tree
use Rattle.spec_trees.specs.Module.{Statement}
use Rattle.spec_grammar.specs.Blocks.{PlacedLine}
use Rattle.spec_grammar.specs.BlockReading as reading
use Rattle.spec_grammar.specs.BlockReading.{Head, admitted_at}
use Rattle.spec_grammar.proofs.Steps.{some_is}
use Rattle.spec_syntax.specs.Placement.{number_of, number_of_header}
use Rattle.py_tree.specs.declared.ids.ExprId.{ExprId}
use Rattle.py_tree.specs.declared.ids.NamesId.{NamesId}
use Rattle.py_tree.specs.declared.ids.StmtId.{StmtId}
use Rattle.py_tree.specs.Arena.{State, shown_stmt}
use Rattle.py_lines.specs.declared.nodes.HeaderNode.{HeaderNode}
use Rattle.py_lines.specs.declared.nodes.HeaderNode.TheVariants as node
use Rattle.py_lines.specs.declared.nodes.LineNode.{LineNode}
use Rattle.py_lines.specs.declared.nodes.LineNode.TheVariants as line
use Rattle.py_lines.specs.Headers.{header_tree, IsHeaderThere, IsLine}
use Rattle.py_placed.specs.declared.placed.PlacedLine as placed
use Rattle.py_placed.specs.Extents.{span_of, last_of, extents}
use Rattle.py_placed.specs.Placed.{IsPlaced, ArePlaced}
use Rattle.py_blocks.specs.Growth.{line_extents}
use Rattle.py_blocks.specs.Heads.{in_depth, head_of, head_in, head_at, IsOwn, FindsBranch, FindsHandler, FindsElse, IsHead}
use Rattle.py_blocks.proofs.Turns.{statement_past, statement_elsewhere, statement_turn, suite_own, headed_elif, headed_else, headed_except, placed_simple, placed_header, admitted_found, admitted_other}

-- the line for which the line at a place stands
placed_next : (m : State) (xs : List placed.PlacedLine) (ps : List PlacedLine) (i : ℕ) (x : placed.PlacedLine) → ArePlaced m xs ps → slice_get xs i ≡ Some x → (p : PlacedLine) × IsPlaced m x p × (drop i ps ≡ p ∷ drop (suc i) ps)
placed_next m [] [] i x h e = absurd cc
placed_next m [] (p ∷ ps) i x h e = absurd h
placed_next m (y ∷ xs) [] i x h e = absurd h
placed_next m (y ∷ xs) (p ∷ ps) zero x h e = (p, subst (λ (v : placed.PlacedLine). IsPlaced m v p) (some_is y x e) h.0, refl)
placed_next m (y ∷ xs) (p ∷ ps) (suc i) x h e = placed_next m xs ps i x h.1 e

pub placed_at : (m : State) (xs : List placed.PlacedLine) (ps : List PlacedLine) (i : ℕ) (x : placed.PlacedLine) → ArePlaced m xs ps → slice_get xs i ≡ Some x → (p : PlacedLine) × IsPlaced m x p × (drop i ps ≡ p ∷ drop (i + 1) ps)
placed_at m xs ps i x h e = rw add-one (placed_next m xs ps i x h e)

-- past the end no line is left
pub placed_past : (m : State) (xs : List placed.PlacedLine) (ps : List PlacedLine) (i : ℕ) → ArePlaced m xs ps → slice_get xs i ≡ None → drop i ps ≡ []
placed_past m [] [] zero h e = refl
placed_past m [] [] (suc i) h e = refl
placed_past m [] (p ∷ ps) i h e = absurd h
placed_past m (y ∷ xs) [] i h e = absurd h
placed_past m (y ∷ xs) (p ∷ ps) zero h e = absurd cc
placed_past m (y ∷ xs) (p ∷ ps) (suc i) h e = placed_past m xs ps i h.1 e

-- there are as many lines as they stand for
pub placed_length : (m : State) (xs : List placed.PlacedLine) (ps : List PlacedLine) → ArePlaced m xs ps → length ps ≡ length xs
placed_length m [] [] h = refl
placed_length m [] (p ∷ ps) h = absurd h
placed_length m (y ∷ xs) [] h = absurd h
placed_length m (y ∷ xs) (p ∷ ps) h = ap suc (placed_length m xs ps h.1)

-- the header of a line, with the statement on its line
pub line_head : (m : State) (x : LineNode) (l : Line) (s : List PlacedLine) (h : HeaderNode) (o : Option StmtId) → IsLine m x l → head_of x ≡ Some (h, o) → IsHeaderThere m h × ((d : Option Simple) × IsOwn m o d × (reading.head_of l s ≡ Some (let y : Head = (header_tree m h, d, s) in y)))
line_head m (line.Simple t) (statement.simple d) s h o i e = absurd cc
line_head m (line.Header g) (statement.header k) s h o i e =
    let both = some_is (g, None) (h, o) e in
    subst (λ (v : HeaderNode × Option StmtId). IsHeaderThere m v.0 × ((z : Option Simple) × IsOwn m v.1 z × (reading.head_of (statement.header k) s ≡ Some (let y : Head = (header_tree m v.0, z, s) in y)))) both (i.0, (None, tt, rw i.1 refl))
line_head m (line.HeaderSimple g t) (statement.header_simple k d) s h o i e =
    let both = some_is (g, Some t) (h, o) e in
    subst (λ (v : HeaderNode × Option StmtId). IsHeaderThere m v.0 × ((z : Option Simple) × IsOwn m v.1 z × (reading.head_of (statement.header_simple k d) s ≡ Some (let y : Head = (header_tree m v.0, z, s) in y)))) both (i.0, (Some d, (i.2, i.3), rw i.1 refl))
line_head m (line.Simple t) (statement.header k) s h o i e = absurd i
line_head m (line.Simple t) (statement.header_simple k d) s h o i e = absurd i
line_head m (line.Header g) (statement.simple d) s h o i e = absurd i
line_head m (line.Header g) (statement.header_simple k d) s h o i e = absurd i
line_head m (line.HeaderSimple g t) (statement.simple d) s h o i e = absurd i
line_head m (line.HeaderSimple g t) (statement.header k) s h o i e = absurd i

-- a line without a header
pub line_headless : (m : State) (x : LineNode) (l : Line) (s : List PlacedLine) → IsLine m x l → head_of x ≡ None → reading.head_of l s ≡ None
line_headless m (line.Simple t) (statement.simple d) s i e = refl
line_headless m (line.Header g) l s i e = absurd cc
line_headless m (line.HeaderSimple g t) l s i e = absurd cc
line_headless m (line.Simple t) (statement.header k) s i e = absurd i
line_headless m (line.Simple t) (statement.header_simple k d) s i e = absurd i

-- the header at a place
pub head_found : (m : State) (xs : List placed.PlacedLine) (ps : List PlacedLine) (d i : ℕ) (h : HeaderNode) (o : Option StmtId) → ArePlaced m xs ps → head_at xs d i ≡ Some (h, o) → IsHeaderThere m h × ((s : Option Simple) × IsOwn m o s × (reading.head_at d (drop i ps) ≡ Some (let y : Head = (header_tree m h, s, drop (i + 1) ps) in y)))
head_found m xs ps d i h o a e = by_line (slice_get xs i) refl e
  where
    Result : Type 0
    Result = IsHeaderThere m h × ((s : Option Simple) × IsOwn m o s × (reading.head_at d (drop i ps) ≡ Some (let y : Head = (header_tree m h, s, drop (i + 1) ps) in y)))

    by_depth : (x : placed.PlacedLine) (b : Bool) → slice_get xs i ≡ Some x → (x.depth == d) ≡ b → head_in (if b then Some x else None) ≡ Some (h, o) → Result
    by_depth x true at t f =
        let p = placed_at m xs ps i x a at in
        let found = line_head m x.node p.0.line (drop (i + 1) ps) h o p.1.2 f in
        let depth : (p.0.depth == d) ≡ true = subst (λ (v : ℕ). (v == d) ≡ true) p.1.0 t in
        (found.0, (found.1.0, found.1.1, rw (p.2, depth) found.1.2))
    by_depth x false at t f = absurd cc

    by_line : (v : Option placed.PlacedLine) → slice_get xs i ≡ v → head_in (in_depth d v) ≡ Some (h, o) → Result
    by_line None at f = absurd cc
    by_line (Some x) at f = by_depth x (x.depth == d) at refl f

-- where there is none
pub head_missed : (m : State) (xs : List placed.PlacedLine) (ps : List PlacedLine) (d i : ℕ) → ArePlaced m xs ps → head_at xs d i ≡ None → reading.head_at d (drop i ps) ≡ None
head_missed m xs ps d i a e = by_line (slice_get xs i) refl e
  where
    by_depth : (x : placed.PlacedLine) (b : Bool) → slice_get xs i ≡ Some x → (x.depth == d) ≡ b → head_in (if b then Some x else None) ≡ None → reading.head_at d (drop i ps) ≡ None
    by_depth x true at t f =
        let p = placed_at m xs ps i x a at in
        let depth : (p.0.depth == d) ≡ true = subst (λ (v : ℕ). (v == d) ≡ true) p.1.0 t in
        rw (p.2, depth) (line_headless m x.node p.0.line (drop (i + 1) ps) p.1.2 f)
    by_depth x false at t f =
        let p = placed_at m xs ps i x a at in
        let depth : (p.0.depth == d) ≡ false = subst (λ (v : ℕ). (v == d) ≡ false) p.1.0 t in
        rw (p.2, depth) refl

    by_line : (v : Option placed.PlacedLine) → slice_get xs i ≡ v → head_in (in_depth d v) ≡ None → reading.head_at d (drop i ps) ≡ None
    by_line None at f = rw (placed_past m xs ps i a at) refl
    by_line (Some x) at f = by_depth x (x.depth == d) at refl f

-- a line that stands in d blocks, or none
pub depth_found : (xs : List placed.PlacedLine) (d i : ℕ) (x : placed.PlacedLine) → in_depth d (slice_get xs i) ≡ Some x → (slice_get xs i ≡ Some x) × (x.depth ≡ d)
depth_found xs d i x e = by_line (slice_get xs i) refl e
  where
    by_depth : (y : placed.PlacedLine) (b : Bool) → slice_get xs i ≡ Some y → (y.depth == d) ≡ b → (if b then Some y else None) ≡ Some x → (slice_get xs i ≡ Some x) × (x.depth ≡ d)
    by_depth y true at t f =
        let same = some_is y x f in
        (subst (λ (v : placed.PlacedLine). slice_get xs i ≡ Some v) same at, subst (λ (v : placed.PlacedLine). v.depth ≡ d) same (eqb-true y.depth d t))
    by_depth y false at t f = absurd cc

    by_line : (v : Option placed.PlacedLine) → slice_get xs i ≡ v → in_depth d v ≡ Some x → (slice_get xs i ≡ Some x) × (x.depth ≡ d)
    by_line None at f = absurd cc
    by_line (Some y) at f = by_depth y (y.depth == d) at refl f

-- no statement begins there
pub depth_missed : (m : State) (xs : List placed.PlacedLine) (ps : List PlacedLine) (n d i : ℕ) → ArePlaced m xs ps → in_depth d (slice_get xs i) ≡ None → reading.statement_below n d (drop i ps) ≡ None
depth_missed m xs ps n d i a e = by_line (slice_get xs i) refl e
  where
    by_depth : (y : placed.PlacedLine) (b : Bool) → slice_get xs i ≡ Some y → (y.depth == d) ≡ b → (if b then Some y else None) ≡ None → reading.statement_below n d (drop i ps) ≡ None
    by_depth y true at t f = absurd cc
    by_depth y false at t f =
        let p = placed_at m xs ps i y a at in
        statement_elsewhere n d p.0 (drop i ps) (drop (i + 1) ps) p.2 (subst (λ (v : ℕ). (v == d) ≡ false) p.1.0 t)

    by_line : (v : Option placed.PlacedLine) → slice_get xs i ≡ v → in_depth d v ≡ None → reading.statement_below n d (drop i ps) ≡ None
    by_line None at f = statement_past n d (drop i ps) (placed_past m xs ps i a at)
    by_line (Some y) at f = by_depth y (y.depth == d) at refl f

-- the lines on which a line begins and ends with what stands deeper behind it
extent_next : (xs : List placed.PlacedLine) (i : ℕ) (x : placed.PlacedLine) → slice_get xs i ≡ Some x → Contains (extents (map span_of xs)) (x.first, last_of x.depth x.last (map span_of (drop (suc i) xs)))
extent_next [] i x e = absurd cc
extent_next (y ∷ xs) zero x e =
    let own : ℕ × ℕ = (y.first, last_of y.depth y.last (map span_of xs)) in
    let here : Contains (extents (map span_of (y ∷ xs))) own = Contains-append_left (own ∷ []) (extents (map span_of xs)) own (Contains-push [] own) in
    subst (λ (v : placed.PlacedLine). Contains (extents (map span_of (y ∷ xs))) (v.first, last_of v.depth v.last (map span_of xs))) (some_is y x e) here
extent_next (y ∷ xs) (suc i) x e =
    let own : ℕ × ℕ = (y.first, last_of y.depth y.last (map span_of xs)) in
    Contains-append_right (own ∷ []) (extents (map span_of xs)) (x.first, last_of x.depth x.last (map span_of (drop (suc i) xs))) (extent_next xs i x e)

pub extent_at : (xs : List placed.PlacedLine) (i : ℕ) (x : placed.PlacedLine) → slice_get xs i ≡ Some x → Contains (extents (map span_of xs)) (x.first, last_of x.depth x.last (map span_of (drop (i + 1) xs)))
extent_at xs i x e = rw add-one (extent_next xs i x e)

-- ---- headers that go on with a statement

module _ (m : State) (xs : List placed.PlacedLine) (ps : List PlacedLine) (d i : ℕ) (h : HeaderNode) (o : Option StmtId) (a : ArePlaced m xs ps) (at : head_at xs d i ≡ Some (h, o)) where
  head_as : (g : HeaderNode) → h ≡ g → IsHeaderThere m g × ((s : Option Simple) × IsOwn m o s × (reading.head_at d (drop i ps) ≡ Some (let y : Head = (header_tree m g, s, drop (i + 1) ps) in y)))
  head_as g e = head_found m xs ps d i g o a (subst (λ (v : HeaderNode). head_at xs d i ≡ Some (v, o)) e at)

  pub elif_found : (l : ℕ) (c : ExprId) → h ≡ node.Elif l c → FindsBranch m ps i (Some (l, c, o)) (admitted_at reading.elif_of d (drop i ps))
  elif_found l c e =
      let f = head_as (node.Elif l c) e in
      (f.0, (f.1.0, f.1.1, admitted_found reading.elif_of d (drop i ps) _ _ f.1.2 refl))

  pub except_found : (l : ℕ) (c : NamesId) → h ≡ node.Except l c → FindsHandler m ps i (Some (l, c, o)) (admitted_at reading.except_of d (drop i ps))
  except_found l c e =
      let f = head_as (node.Except l c) e in
      (f.0, (f.1.0, f.1.1, admitted_found reading.except_of d (drop i ps) _ _ f.1.2 refl))

  pub else_found : (l : ℕ) → h ≡ node.Else l → FindsElse m ps i (Some (l, o)) (admitted_at reading.else_of d (drop i ps))
  else_found l e =
      let f = head_as (node.Else l) e in
      (f.1.0, f.1.1, admitted_found reading.else_of d (drop i ps) _ _ f.1.2 refl)

  pub elif_other : ((l : ℕ) (c : ExprId) → h ≡ node.Elif l c → ⊥) → admitted_at reading.elif_of d (drop i ps) ≡ None
  elif_other f = admitted_other reading.elif_of d (drop i ps) _ (head_as h refl).1.2 (no_elif h f)
    where
      no_elif : (g : HeaderNode) → ((l : ℕ) (c : ExprId) → g ≡ node.Elif l c → ⊥) → reading.elif_of (header_tree m g) ≡ None
      no_elif (node.Elif l c) f = absurd (f l c refl)
      no_elif (node.Def l x p r) f = refl
      no_elif (node.Class l x) f = refl
      no_elif (node.If l c) f = refl
      no_elif (node.Else l) f = refl
      no_elif (node.While l c) f = refl
      no_elif (node.For l x c) f = refl
      no_elif (node.Try l) f = refl
      no_elif (node.Except l c) f = refl

  pub except_other : ((l : ℕ) (c : NamesId) → h ≡ node.Except l c → ⊥) → admitted_at reading.except_of d (drop i ps) ≡ None
  except_other f = admitted_other reading.except_of d (drop i ps) _ (head_as h refl).1.2 (no_except h f)
    where
      no_except : (g : HeaderNode) → ((l : ℕ) (c : NamesId) → g ≡ node.Except l c → ⊥) → reading.except_of (header_tree m g) ≡ None
      no_except (node.Except l c) f = absurd (f l c refl)
      no_except (node.Def l x p r) f = refl
      no_except (node.Class l x) f = refl
      no_except (node.If l c) f = refl
      no_except (node.Elif l c) f = refl
      no_except (node.Else l) f = refl
      no_except (node.While l c) f = refl
      no_except (node.For l x c) f = refl
      no_except (node.Try l) f = refl

  pub else_other : ((l : ℕ) → h ≡ node.Else l → ⊥) → admitted_at reading.else_of d (drop i ps) ≡ None
  else_other f = admitted_other reading.else_of d (drop i ps) _ (head_as h refl).1.2 (no_else h f)
    where
      no_else : (g : HeaderNode) → ((l : ℕ) → g ≡ node.Else l → ⊥) → reading.else_of (header_tree m g) ≡ None
      no_else (node.Else l) f = absurd (f l refl)
      no_else (node.Def l x p r) f = refl
      no_else (node.Class l x) f = refl
      no_else (node.If l c) f = refl
      no_else (node.Elif l c) f = refl
      no_else (node.While l c) f = refl
      no_else (node.For l x c) f = refl
      no_else (node.Try l) f = refl
      no_else (node.Except l c) f = refl

pub extent_found : (xs : List placed.PlacedLine) (i : ℕ) (x y : placed.PlacedLine) (n : ℕ) → slice_get xs i ≡ Some x → slice_get xs i ≡ Some y → n ≡ last_of y.depth y.last (map span_of (drop (i + 1) xs)) → Contains (line_extents xs) (x.first, n)
extent_found xs i x y n e f q = subst (λ (v : placed.PlacedLine). n ≡ last_of v.depth v.last (map span_of (drop (i + 1) xs)) → Contains (line_extents xs) (x.first, n)) (some_is x y (sym e ∙ f)) (λ p. rw p (extent_at xs i x e)) q

-- ---- a statement that begins at a place

-- a line that is a simple statement
simple_line : (m : State) (x : LineNode) (l : Line) (s : StmtId) → IsLine m x l → x ≡ line.Simple s → (y : Simple) × (l ≡ statement.simple y) × (s.index < length m.stmts) × (shown_stmt m s.index ≡ tree.simple y)
simple_line m (line.Simple t) (statement.simple y) s i e = let q : t ≡ s = cc in subst (λ (v : StmtId). (z : Simple) × (statement.simple y ≡ statement.simple z) × (v.index < length m.stmts) × (shown_stmt m v.index ≡ tree.simple z)) q (y, refl, i.0, i.1)
simple_line m (line.Simple t) (statement.header k) s i e = absurd i
simple_line m (line.Simple t) (statement.header_simple k d) s i e = absurd i
simple_line m (line.Header g) l s i e = absurd cc
simple_line m (line.HeaderSimple g t) l s i e = absurd cc

module _ (m : State) (xs : List placed.PlacedLine) (ps : List PlacedLine) (n d i : ℕ) (x : placed.PlacedLine) (a : ArePlaced m xs ps) (lt : 0 < n) (at : in_depth d (slice_get xs i) ≡ Some x) where
  pub simple_built : (s : StmtId) → x.node ≡ line.Simple s → (s.index < length m.stmts) × (reading.statement_below n d (drop i ps) ≡ Some (shown_stmt m s.index, drop (i + 1) ps))
  simple_built s e =
      let f = depth_found xs d i x at in
      let p = placed_at m xs ps i x a f.0 in
      let l = simple_line m x.node p.0.line s p.1.2 e in
      let turn = statement_turn n d p.0 (drop i ps) (drop (i + 1) ps) lt p.2 (sym p.1.0 ∙ f.1) in
      (l.2, turn ∙ rw (l.1, l.3) (placed_simple (reading.statement_below (n - 1)) n d l.0 (drop (i + 1) ps)))

  pub header_built : (h : HeaderNode) (o : Option StmtId) → head_of x.node ≡ Some (h, o) → (z : Option Simple) × IsOwn m o z × (reading.statement_below n d (drop i ps) ≡ reading.headed_with (reading.statement_below (n - 1)) n d (header_tree m h) z (drop (i + 1) ps))
  header_built h o e =
      let f = depth_found xs d i x at in
      let p = placed_at m xs ps i x a f.0 in
      let l = line_head m x.node p.0.line (drop (i + 1) ps) h o p.1.2 e in
      let turn = statement_turn n d p.0 (drop i ps) (drop (i + 1) ps) lt p.2 (sym p.1.0 ∙ f.1) in
      (l.1.0, l.1.1, turn ∙ placed_header (reading.statement_below (n - 1)) n d p.0.line (drop (i + 1) ps) _ l.1.2)

-- the header that stands at a place is there, with the statement on its line
pub head_there : (m : State) (xs : List placed.PlacedLine) (ps : List PlacedLine) (i : ℕ) (h : HeaderNode) (o : Option StmtId) → ArePlaced m xs ps → IsHead xs i h o → IsHeaderThere m h × ((z : Option Simple) × IsOwn m o z)
head_there m xs ps i h o a e =
    let p = placed_at m xs ps i e.0 a e.1 in
    let l = line_head m e.0.node p.0.line (drop (i + 1) ps) h o p.1.2 e.2 in
    (l.0, (l.1.0, l.1.1))

-- ---- the block of a header

pub own_suite : (m : State) (p : ℕ → reading.ParseLines Statement) (k d : ℕ) (s : StmtId) (z : Option Simple) (t : List PlacedLine) → IsOwn m (Some s) z → (s.index < length m.stmts) × (reading.body_with p k d z t ≡ Some (tree.statement (shown_stmt m s.index) tree.no_statement, t))
own_suite m p k d s (Some y) t h = (h.0, rw h.1 (suite_own p k d y t))
own_suite m p k d s None t h = absurd h

pub no_own : (m : State) (z : Option Simple) → IsOwn m None z → z ≡ None
no_own m None h = refl
no_own m (Some y) h = absurd h

-- ---- the lines on which a function or class begins and ends

-- the line of a header
abbrev pub line_of_header : HeaderNode → ℕ
line_of_header (node.Def l x p r) = l
line_of_header (node.Class l x) = l
line_of_header (node.If l c) = l
line_of_header (node.Elif l c) = l
line_of_header (node.Else l) = l
line_of_header (node.While l c) = l
line_of_header (node.For l x c) = l
line_of_header (node.Try l) = l
line_of_header (node.Except l c) = l

header_number : (m : State) (h : HeaderNode) → number_of_header (header_tree m h) ≡ line_of_header h
header_number m (node.Def l x p r) = refl
header_number m (node.Class l x) = refl
header_number m (node.If l c) = refl
header_number m (node.Elif l c) = refl
header_number m (node.Else l) = refl
header_number m (node.While l c) = refl
header_number m (node.For l x c) = refl
header_number m (node.Try l) = refl
header_number m (node.Except l c) = refl

-- the number of a line is that of its header
head_number : (l : Line) (s : List PlacedLine) (h : Head) → reading.head_of l s ≡ Some h → number_of l ≡ number_of_header h.0
head_number (statement.simple x) s h e = absurd cc
head_number (statement.header g) s h e = ap (λ (y : Head). number_of_header y.0) (some_is (g, None, s) h e)
head_number (statement.header_simple g x) s h e = ap (λ (y : Head). number_of_header y.0) (some_is (g, Some x, s) h e)

pub header_extent : (m : State) (xs : List placed.PlacedLine) (ps : List PlacedLine) (i : ℕ) (h : HeaderNode) (o : Option StmtId) (n : ℕ) → ArePlaced m xs ps → IsHead xs i h o → ((x : placed.PlacedLine) → slice_get xs i ≡ Some x → Contains (line_extents xs) (x.first, n)) → Contains (line_extents xs) (line_of_header h, n)
header_extent m xs ps i h o n a e f =
    let p = placed_at m xs ps i e.0 a e.1 in
    let l = line_head m e.0.node p.0.line (drop (i + 1) ps) h o p.1.2 e.2 in
    let first : e.0.first ≡ line_of_header h = p.1.1 ∙ head_number p.0.line (drop (i + 1) ps) _ l.1.2 ∙ header_number m h in
    subst (λ (v : ℕ). Contains (line_extents xs) (v, n)) first (f e.0 e.1)

-- no statement begins with a header that goes on with one
pub headed_going_on : (m : State) (p : ℕ → reading.ParseLines Statement) (k d : ℕ) (o : Option Simple) (s : List PlacedLine) (h : HeaderNode) → ((x : ℕ) × (c : ExprId) × (h ≡ node.Elif x c)) ⊎ (((x : ℕ) × (h ≡ node.Else x)) ⊎ ((x : ℕ) × (c : NamesId) × (h ≡ node.Except x c))) → reading.headed_with p k d (header_tree m h) o s ≡ None
headed_going_on m p k d o s h (inl w) = rw w.2 (headed_elif p k d o s w.0 _)
headed_going_on m p k d o s h (inr (inl w)) = rw w.1 (headed_else p k d o s w.0)
headed_going_on m p k d o s h (inr (inr w)) = rw w.2 (headed_except p k d o s w.0 _)
