-- Reading in steps.
use Rattle.std.proofs.Common.{◌≡◌, Bool, true, false, not, ◌&&◌, List, [], ◌∷◌, ◌++◌, map, is_some, Option, Some, None, Result, Ok, Err, OnOk, refl, sym, ap, subst, ◌∙◌}
use Rattle.std.proofs.lemmas.List.{append-nil, append_assoc, map-append}
use Rattle.std.specs.List.{flat_map}
use Rattle.spec_contracts.specs.declared.Refusal.{Refusal}
use Rattle.spec_contracts.specs.declared.ContractFault.TheVariants.{BadExpression, UnknownName, Misplaced}
use Rattle.spec_contracts.specs.Entries.{Entry}
use Rattle.spec_contracts.specs.Owners.{Owned, Owner}
use Rattle.spec_contracts.specs.ContractLines as lines
use Rattle.spec_contracts.specs.ContractLines.{bad, brackets_known, classes_known, first_refusal, given_line, is_misplaced, lines_among, refusals_among, refusals_of, refused_if}
use Rattle.py_tree.specs.Arena.{State, Extends, IsModule}
use Rattle.contract_entries.specs.declared.entries.Entry as code
use Rattle.contract_entries.specs.Given.{content_in, entry_in}
use Rattle.contract_owners.specs.Members.{owner_in}
use Rattle.contract_lines.specs.declared.entries.Head.{Head}
use Rattle.contract_lines.specs.declared.contracts.ContractLine.{ContractLine}
use Rattle.contract_lines.specs.declared.entries.Reading.{Reading}
use Rattle.contract_lines.specs.Given.{GivesLine, IsHeadOf, Reads, TellsMore, AreLinesThere, given, line_in, promise_of}
use Rattle.contract_lines.proofs.Later.{lines_kept, lines_push}

pub reads_same : (m : State) (r : Reading) → Reads m m r r [] []
reads_same m r = record {
  there = λ h. h;
  shown = λ h. sym (append-nil (map (line_in m) r.lines));
  told = λ ps e. e ∙ ap first_refusal (sym (append-nil ps));
}

-- a module that grows changes no line
pub reads_grown : (m n : State) → Extends m n → IsModule m → (r : Reading) → Reads m n r r [] []
reads_grown m n g d r = record {
  there = λ h. (lines_kept m n g d r.lines h).0;
  shown = λ h. (lines_kept m n g d r.lines h).1 ∙ sym (append-nil (map (line_in m) r.lines));
  told = λ ps e. e ∙ ap first_refusal (sym (append-nil ps));
}

pub reads_then : (l m n : State) (q r s : Reading) (xs ys : List lines.ContractLine) (cs ds : List Refusal) → Reads l m q r xs cs → Reads m n r s ys ds → Reads l n q s (xs ++ ys) (cs ++ ds)
reads_then l m n q r s xs ys cs ds g h = record {
  there = λ t. h.there (g.there t);
  shown = λ t. h.shown (g.there t) ∙ ap (λ (v : List lines.ContractLine). v ++ ys) (g.shown t) ∙ append_assoc (map (line_in l) q.lines) xs ys;
  told = λ ps e. h.told (ps ++ cs) (g.told ps e) ∙ ap first_refusal (append_assoc ps cs ds);
}

-- ---- one entry

pub three_told : (a b c d : Option Refusal) (p q r : List Refusal) → TellsMore a b p → TellsMore b c q → TellsMore c d r → TellsMore a d (p ++ q ++ r)
three_told a b c d p q r x y z ps e = z ((ps ++ p) ++ q) (y (ps ++ p) (x ps e)) ∙ ap first_refusal (append_assoc (ps ++ p) q r ∙ append_assoc ps p (q ++ r) ∙ ap (λ (v : List Refusal). ps ++ v) (sym (append_assoc p q r)))

bad_is : (n : State) (e : Entry) (l : Option ContractLine) (t : Option lines.ContractLine) (b : Bool) → is_some l ≡ not b → GivesLine n l t → refused_if b e.line BadExpression ≡ bad e t
bad_is n e None t true u g = rw g refl
bad_is n e None t false u g = absurd cc
bad_is n e (Some l) t true u g = absurd cc
bad_is n e (Some l) t false u g = rw g.1 refl

module _ (m n : State) (g : Extends m n) (d : IsModule m) (r s : Reading) (o : Owned) (e : Entry) (l : Option ContractLine) where
  all_there : (l : Option ContractLine) (t : Option lines.ContractLine) → GivesLine n l t → AreLinesThere n r.lines → AreLinesThere n (r.lines ++ given l)
  all_there None t is h = rw (append-nil r.lines) h
  all_there (Some k) t is h = lines_push n r.lines k h is.0

  given_is : (l : Option ContractLine) (t : Option lines.ContractLine) → GivesLine n l t → map (line_in n) (given l) ≡ given_line t
  given_is None t is = rw is refl
  given_is (Some k) t is = rw is.1 refl

  entry_read : (b : Bool) → GivesLine n l (lines.line_of o.owner e) → s.lines ≡ r.lines ++ given l → is_some l ≡ not b
      → TellsMore r.refusal s.refusal (refused_if b e.line BadExpression ++ refused_if (not (brackets_known o.parameters e.promise.names && classes_known e.content)) e.promise.line UnknownName ++ refused_if (is_misplaced o.owner e.promise.kind) e.promise.line Misplaced)
      → Reads m n r s (given_line (lines.line_of o.owner e)) (refusals_of o e)
  entry_read b is more u told = record {
    there = λ t. rw more (all_there l (lines.line_of o.owner e) is (lines_kept m n g d r.lines t).0);
    shown = λ t. ap (map (line_in n)) more ∙ map-append (line_in n) r.lines (given l) ∙ ap (λ v. v ++ map (line_in n) (given l)) (lines_kept m n g d r.lines t).1 ∙ ap (λ v. map (line_in m) r.lines ++ v) (given_is l (lines.line_of o.owner e) is);
    told = λ ps h. told ps h ∙ ap (λ (v : List Refusal). first_refusal (ps ++ (v ++ refused_if (not (brackets_known o.parameters e.promise.names && classes_known e.content)) e.promise.line UnknownName ++ refused_if (is_misplaced o.owner e.promise.kind) e.promise.line Misplaced))) (bad_is n e l (lines.line_of o.owner e) b u is);
  }

-- an entry of a contract line of which the code holds what it is
pub head_read : (m n : State) (g : Extends m n) (d : IsModule m) (r s : Reading) (h : Head) (x : code.Entry) (l : Option ContractLine) (b : Bool) (o : Owned) → IsHeadOf m h o
    → GivesLine n l (lines.line_of (owner_in h.owner) (entry_in (promise_of m h) x)) → s.lines ≡ r.lines ++ given l → is_some l ≡ not b
    → TellsMore r.refusal s.refusal (refused_if b x.line BadExpression ++ refused_if (not (h.is_known && classes_known (content_in x.content))) h.line UnknownName ++ refused_if h.is_misplaced h.line Misplaced)
    → Reads m n r s (given_line (lines.line_of o.owner (entry_in (promise_of m h) x))) (refusals_of o (entry_in (promise_of m h) x))
head_read m n g d r s h x l b o is line more u told =
    let e = entry_in (promise_of m h) x in
    let misplaced : is_misplaced o.owner h.kind ≡ h.is_misplaced = ap (λ (w : Owner). is_misplaced w h.kind) is.owner ∙ is.misplaced in
    entry_read m n g d r s o e l b (subst (λ (w : Owner). GivesLine n l (lines.line_of w e)) (sym is.owner) line) more u
    (subst (λ (k : Bool). TellsMore r.refusal s.refusal (refused_if b x.line BadExpression ++ refused_if (not (k && classes_known (content_in x.content))) h.line UnknownName ++ refused_if (is_misplaced o.owner h.kind) h.line Misplaced)) (sym is.known)
    (subst (λ (k : Bool). TellsMore r.refusal s.refusal (refused_if b x.line BadExpression ++ refused_if (not (h.is_known && classes_known (content_in x.content))) h.line UnknownName ++ refused_if k h.line Misplaced)) (sym misplaced) told))

pub on_ok : {T E : Type 0} (r : Result T E) (P Q : Type 0) → (P → Q) → OnOk r P → OnOk r Q
on_ok (Ok x) P Q f h = f h
on_ok (Err e) P Q f h = tt

-- ---- what is left to read

-- Where reading goes on by what is left, it goes on from the start by all.
abbrev pub Continues : State → State → Reading → Reading → List lines.ContractLine → List Refusal → List lines.ContractLine → List Refusal → Type 0
Continues m n r s left cs all ds = (o : State) (t : Reading) → Reads n o s t left cs → Reads m o r t all ds

pub continues_start : (m n : State) → Extends m n → IsModule m → (r : Reading) (all : List lines.ContractLine) (ds : List Refusal) → Continues m n r r all ds all ds
continues_start m n g d r all ds o t h = reads_then m n o r r t [] all [] ds (reads_grown m n g d r) h

pub continues_same : (m : State) (r : Reading) (all : List lines.ContractLine) (ds : List Refusal) → Continues m m r r all ds all ds
continues_same m r all ds o t h = h

pub continues_then : (l m n : State) (q r s : Reading) (xs ys all : List lines.ContractLine) (cs ds es : List Refusal)
    → Continues l m q r (xs ++ ys) (cs ++ ds) all es → Reads m n r s xs cs → Continues l n q s ys ds all es
continues_then l m n q r s xs ys all cs ds es h g o t k = h o t (reads_then m n o r s t xs ys cs ds g k)

pub continues_end : (m n : State) (r s : Reading) (all : List lines.ContractLine) (ds : List Refusal) → Continues m n r s [] [] all ds → Reads m n r s all ds
continues_end m n r s all ds h = h n s (reads_same n s)

-- ---- entries of several contract lines

flat_map_then : {A B : Type 0} (f : A → List B) (xs ys : List A) → flat_map f (xs ++ ys) ≡ flat_map f xs ++ flat_map f ys
flat_map_then f [] ys = refl
flat_map_then f (x ∷ xs) ys = ap (λ v. f x ++ v) (flat_map_then f xs ys) ∙ sym (append_assoc (f x) (flat_map f xs) (flat_map f ys))

pub lines_then : (o : Owned) (xs ys : List Entry) → lines_among o (xs ++ ys) ≡ lines_among o xs ++ lines_among o ys
lines_then o xs ys = flat_map_then (λ e. given_line (lines.line_of o.owner e)) xs ys

pub refusals_then : (o : Owned) (xs ys : List Entry) → refusals_among o (xs ++ ys) ≡ refusals_among o xs ++ refusals_among o ys
refusals_then o xs ys = flat_map_then (refusals_of o) xs ys
