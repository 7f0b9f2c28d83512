-- The promises of contract lines, one after the other.
use Rattle.std.proofs.Common.{◌≡◌, ℕ, zero, suc, ◌+◌, ◌<◌, ◌≤◌, List, [], ◌∷◌, ◌++◌, length, map, drop, drop-cons, get_or, None, Result, Ok, Err, refl, sym, ap, subst, arith, ◌∙◌, append-nil}
use Rattle.std.proofs.lemmas.Grind.{common_steps, flat_map-append}
use Rattle.std.proofs.lemmas.List.{map-append}
use Rattle.std.proofs.lemmas.List.Elements.{All-push, filter_map-append}
use Rattle.spec_first_trees.specs.declared.ExcClass.{ExcClass}
use Rattle.spec_first_trees.specs.Expr.{Expr}
use Rattle.spec_first_trees.specs.Program.{Condition}
use Rattle.spec_forms.specs.Forms as forms
use Rattle.spec_forms.specs.Forms.{onto, promise_of, promises_of, preconditions_of, permitted_of, posts_of}
use Rattle.py_tree.specs.State.{State}
use Rattle.spec_contracts.specs.declared.LineKind.TheVariants as kind
use Rattle.contract_owners.specs.declared.listing.Owner.TheVariants as owner
use Rattle.contract_lines.specs.declared.contracts.ContractLine.{ContractLine}
use Rattle.contract_lines.specs.Given.{AreLinesThere, IsLineThere, line_in}
use Rattle.first_tree.specs.declared.nodes.ExprId.{ExprId}
use Rattle.first_tree.specs.declared.nodes.ExprNode.{ExprNode}
use Rattle.first_tree.specs.declared.nodes.Post.{Post}
use Rattle.first_tree.specs.Arena.{AreExprsBelow, ArePostsBelow, Extends, shown}
use Rattle.first_tree.specs.Functions.{expr_in, post_in}
use Rattle.first_tree.proofs.Arenas.{extends_length, shown_kept}
use Rattle.first_promises.specs.declared.errors.Unformed.{Unformed}
use Rattle.first_promises.specs.declared.errors.Unformed.TheVariants.{OtherForm, NoMemory}
use Rattle.first_promises.specs.declared.promises.Promise.{Promise}
use Rattle.first_promises.specs.declared.promises.Promise.TheVariants as promise
use Rattle.first_promises.specs.declared.promises.Promises.{Promises}
use Rattle.first_promises.specs.Errors.{error_at}
use Rattle.first_promises.specs.Lines.{Adds, GivesPromise, IsExprThere, classes_in, preconditions_in, posts_in, promise_in}
use Rattle.first_promises.specs.Promised.{ArePromises, GivesPromises}
use Rattle.first_promises.proofs.Named.{drop_all}

-- ---- promises before others

abbrev pub all_onto : List forms.Promise → Result (List forms.Promise) ℕ → Result (List forms.Promise) ℕ
all_onto [] r = r
all_onto (p ∷ ps) r = onto p (all_onto ps r)

onto_more : (ps : List forms.Promise) (p : forms.Promise) (r : Result (List forms.Promise) ℕ) → all_onto (ps ++ p ∷ []) r ≡ all_onto ps (onto p r)
onto_more [] p r = refl
onto_more (q ∷ ps) p r = ap (onto q) (onto_more ps p r)

onto_end : (ps : List forms.Promise) → all_onto ps (Ok []) ≡ Ok ps
onto_end [] = refl
onto_end (p ∷ ps) = ap (onto p) (onto_end ps)

onto_error : (ps : List forms.Promise) (n : ℕ) → all_onto ps (Err n) ≡ Err n
onto_error [] n = refl
onto_error (p ∷ ps) n = ap (onto p) (onto_error ps n)

-- ---- expressions where there are more nodes

module _ (old new : List ExprNode) (g : Extends old new) where
  exprs_kept : (es : List ExprId) → AreExprsBelow (length old) es → map (expr_in new) es ≡ map (expr_in old) es
  exprs_kept [] h = refl
  exprs_kept (e ∷ es) h =
      let here : shown new e.index ≡ shown old e.index = shown_kept old new e.index g (h 0 e (omega arith)) in
      let rest : map (expr_in new) es ≡ map (expr_in old) es = exprs_kept es (λ k d lt. h (suc k) d (omega arith)) in
      rw (here, rest) refl

  posts_kept : (ps : List Post) → ArePostsBelow (length old) ps → map (post_in new) ps ≡ map (post_in old) ps
  posts_kept [] h = refl
  posts_kept (p ∷ ps) h =
      let here : shown new p.expr.index ≡ shown old p.expr.index = shown_kept old new p.expr.index g (h 0 p (omega arith)) in
      let rest : map (post_in new) ps ≡ map (post_in old) ps = posts_kept ps (λ k d lt. h (suc k) d (omega arith)) in
      rw (here, rest) refl

  promises_kept : (p : Promises) (ps : List forms.Promise) → ArePromises old p ps → ArePromises new p ps
  promises_kept p ps h =
      let more = extends_length old new g in
      record {
        preconditions = exprs_kept p.preconditions.items h.preconditions_below ∙ h.preconditions;
        permitted = h.permitted;
        posts = posts_kept p.posts.items h.posts_below ∙ h.posts;
        preconditions_below = λ k d lt. omega (arith, more, h.preconditions_below k d lt);
        posts_below = λ k d lt. omega (arith, more, h.posts_below k d lt);
      }

-- ---- one promise more

module _ (m : State) (nodes : List ExprNode) (ps : List forms.Promise) where
  preconditions_more : (es : List ExprId) (p : Promise) → map (expr_in nodes) es ≡ preconditions_of ps → map (expr_in nodes) (es ++ preconditions_in p) ≡ preconditions_of (ps ++ promise_in m nodes p ∷ [])
  preconditions_more es p h = map-append (expr_in nodes) es (preconditions_in p) ∙ ap (λ (v : List Expr). v ++ map (expr_in nodes) (preconditions_in p)) h ∙ by_kind p ∙ sym (filter_map-append _ ps (promise_in m nodes p ∷ []))
    where
      by_kind : (p : Promise) → (preconditions_of ps ++ map (expr_in nodes) (preconditions_in p)) ≡ preconditions_of ps ++ preconditions_of (promise_in m nodes p ∷ [])
      by_kind (promise.Precondition e) = refl
      by_kind (promise.Postcondition q) = refl
      by_kind (promise.Permission l) = refl

  posts_more : (es : List Post) (p : Promise) → map (post_in nodes) es ≡ posts_of ps → map (post_in nodes) (es ++ posts_in p) ≡ posts_of (ps ++ promise_in m nodes p ∷ [])
  posts_more es p h = map-append (post_in nodes) es (posts_in p) ∙ ap (λ (v : List Condition). v ++ map (post_in nodes) (posts_in p)) h ∙ by_kind p ∙ sym (filter_map-append _ ps (promise_in m nodes p ∷ []))
    where
      by_kind : (p : Promise) → (posts_of ps ++ map (post_in nodes) (posts_in p)) ≡ posts_of ps ++ posts_of (promise_in m nodes p ∷ [])
      by_kind (promise.Precondition e) = refl
      by_kind (promise.Postcondition q) = refl
      by_kind (promise.Permission l) = refl

  permitted_more : (ks : List ExcClass) (p : Promise) → ks ≡ permitted_of ps → ks ++ classes_in m p ≡ permitted_of (ps ++ promise_in m nodes p ∷ [])
  permitted_more ks p h = ap (λ (v : List ExcClass). v ++ classes_in m p) h ∙ by_kind p ∙ sym (flat_map-append _ ps (promise_in m nodes p ∷ []))
    where
      by_kind : (p : Promise) → (permitted_of ps ++ classes_in m p) ≡ permitted_of ps ++ permitted_of (promise_in m nodes p ∷ [])
      by_kind (promise.Precondition e) = refl
      by_kind (promise.Postcondition q) = refl
      by_kind (promise.Permission l) = ap (λ (v : List ExcClass). permitted_of ps ++ v) (sym (append-nil (classes_in m (promise.Permission l))))

  preconditions_below : (es : List ExprId) (p : Promise) → IsExprThere m nodes p → AreExprsBelow (length nodes) es → AreExprsBelow (length nodes) (es ++ preconditions_in p)
  preconditions_below es (promise.Precondition e) h d = All-push (λ (x : ExprId). x.index < length nodes) es e d h
  preconditions_below es (promise.Postcondition q) h d = rw (append-nil es) d
  preconditions_below es (promise.Permission l) h d = rw (append-nil es) d

  posts_below : (es : List Post) (p : Promise) → IsExprThere m nodes p → ArePostsBelow (length nodes) es → ArePostsBelow (length nodes) (es ++ posts_in p)
  posts_below es (promise.Precondition e) h d = rw (append-nil es) d
  posts_below es (promise.Postcondition q) h d = All-push (λ (x : Post). x.expr.index < length nodes) es q d h
  posts_below es (promise.Permission l) h d = rw (append-nil es) d

  promises_more : (p : Promise) (old new : Promises) → Adds m p old new → IsExprThere m nodes p → ArePromises nodes old ps → ArePromises nodes new (ps ++ promise_in m nodes p ∷ [])
  promises_more p old new a there h = record {
    preconditions = ap (map (expr_in nodes)) a.preconditions ∙ preconditions_more old.preconditions.items p h.preconditions;
    permitted = a.permitted ∙ permitted_more old.permitted.items p h.permitted;
    posts = ap (map (post_in nodes)) a.posts ∙ posts_more old.posts.items p h.posts;
    preconditions_below = subst (AreExprsBelow (length nodes)) (sym a.preconditions) (preconditions_below old.preconditions.items p there h.preconditions_below);
    posts_below = subst (ArePostsBelow (length nodes)) (sym a.posts) (posts_below old.posts.items p there h.posts_below);
  }

-- ---- the lines so far

-- the default of reads, which is never seen
abbrev pub no_line : ContractLine
no_line = record { owner = owner.Function (record { index = 0 }); kind = kind.Pre; line = 0; expr = None; names = None }

pub line_there : (m : State) (ls : List ContractLine) (i : ℕ) (d : ContractLine) → AreLinesThere m ls → i < length ls → IsLineThere m (get_or ls i d)
line_there m [] i d h lt = absurd (omega arith)
line_there m (l ∷ ls) zero d h lt = h.0
line_there m (l ∷ ls) (suc i) d h lt = line_there m ls i d h.1 (omega arith)

module _ (m : State) (names : List (List ℕ)) (ls : List ContractLine) where
  -- what the lines promise from the place i on
  abbrev promises_from : ℕ → Result (List forms.Promise) ℕ
  promises_from i = promises_of names (map (line_in m) (drop i ls))

  -- The promises of the lines before the place i are read.
  pub record AreReadTo (nodes : List ExprNode) (p : Promises) (i : ℕ) : Type 0 where
    pub so_far : List forms.Promise
    pub are : ArePromises nodes p so_far
    pub rest : promises_of names (map (line_in m) ls) ≡ all_onto so_far (promises_from i)

  module _ (old : List ExprNode) (p : Promises) (i : ℕ) (h : AreReadTo old p i) where
    pub read_all : length ls ≤ i → GivesPromises old (Ok p) (promises_of names (map (line_in m) ls))
    read_all le = rw (h.rest ∙ ap (λ (v : List ContractLine). all_onto h.so_far (promises_of names (map (line_in m) v))) (drop_all ls i le) ∙ onto_end h.so_far) h.are

    module _ (d : ContractLine) (lt : i < length ls) where
      from : drop i ls ≡ get_or ls i d ∷ drop (i + 1) ls
      from = grind (arith, common_steps, drop-cons)

      pub read_error : (nodes : List ExprNode) (u : Unformed) → GivesPromise m nodes (Err u) (promise_of names (line_in m (get_or ls i d))) → GivesPromises nodes (Err (error_at (get_or ls i d).line u)) (promises_of names (map (line_in m) ls))
      read_error nodes OtherForm e = h.rest ∙ ap (λ (v : List ContractLine). all_onto h.so_far (promises_of names (map (line_in m) v))) from ∙ rw e (onto_error h.so_far (get_or ls i d).line)
      read_error nodes NoMemory e = tt

      pub read_more : (nodes : List ExprNode) (q : Promise) (new : Promises) → Extends old nodes → GivesPromise m nodes (Ok q) (promise_of names (line_in m (get_or ls i d))) → Adds m q p new → AreReadTo nodes new (i + 1)
      read_more nodes q new g is a = record {
        so_far = h.so_far ++ promise_in m nodes q ∷ [];
        are = promises_more m nodes h.so_far q p new a is.1 (promises_kept old nodes g p h.so_far h.are);
        rest = h.rest ∙ ap (λ (v : List ContractLine). all_onto h.so_far (promises_of names (map (line_in m) v))) from ∙ rw is.2 (sym (onto_more h.so_far (promise_in m nodes q) (promises_from (i + 1))));
      }
