-- Functions that need types, by the marks of their classes.
use Rattle.std.proofs.Common.{◌≡◌, ℕ, suc, ◌<◌, ◌&&◌, ◌||◌, Bool, true, false, List, [], ◌∷◌, ◌++◌, length, map, get_or, Option, Some, None, refl, sym, ap, subst, arith, ◌∙◌, if◌then◌else◌}
use Rattle.std.specs.List.{flat_map, range_with_len}
use Rattle.std.specs.Global.{Vec}
use Rattle.std.proofs.lemmas.List.{length-map}
use Rattle.std.proofs.lemmas.List.FromFn.{get_or-map-range_with_len, length-map-range_with_len}
use Rattle.spec_names.specs.declared.Refusal.{Refusal}
use Rattle.spec_types.specs.Signatures as types
use Rattle.spec_types.specs.Needs.{all_spoken, edges, is_class_reached, named_by, needs_types, signature_refusals, type_refusals}
use Rattle.spec_types.specs.Reached.{is_reached}
use Rattle.py_tree.specs.Arena.{State}
use Rattle.told_refusals.specs.Telling.{Tells}
use Rattle.told_refusals.proofs.Telling.{tells_none}
use Rattle.given_types.specs.declared.GivenType.{GivenType}
use Rattle.given_types.specs.declared.Signature.{Signature}
use Rattle.given_types.specs.Giving.{AreSignatures, IsClassBelow, all_given, given_in, signature_in}
use Rattle.type_needs.specs.Marked.{HaveGiven, HaveMarks, marked}

module _ (reached : ℕ → Bool) (s : types.Signature) where
  pub told_of_needy : (old new : Option Refusal) → needs_types reached s ≡ true → Tells old new (flat_map (type_refusals s.line) s.types) → Tells old new (signature_refusals reached s)
  told_of_needy old new e told = subst (λ (b : Bool). Tells old new (if b then flat_map (type_refusals s.line) s.types else [])) (sym e) told

  pub told_of_others : (old : Option Refusal) → needs_types reached s ≡ false → Tells old old (signature_refusals reached s)
  told_of_others old e = subst (λ (b : Bool). Tells old old (if b then flat_map (type_refusals s.line) s.types else [])) (sym e) (tells_none old)

-- ---- marks of all classes

module _ (m : State) (n : ℕ) (ss : List Signature) (h : AreSignatures m n ss) where
  pub have_marks : (marks : List Bool) → length marks ≡ n → HaveMarks marks ss
  have_marks marks e = λ i d lt. subst (λ (v : ℕ). IsClassBelow v (get_or ss i d).class) (sym e) (h i d lt).0

  pub have_given : HaveGiven m ss
  have_given = λ i d lt. (h i d lt).1

-- ---- the same marks

module _ (m : State) (n : ℕ) (p q : ℕ → Bool) (same : (k : ℕ) → k < n → p k ≡ q k) where
  same_refusals : (s : Signature) → IsClassBelow n s.class → signature_refusals p (signature_in m s) ≡ signature_refusals q (signature_in m s)
  same_refusals s h = ap (λ (b : Bool). if b then flat_map (type_refusals s.line) (signature_in m s).types else []) (by_class s.class refl)
    where
      by_class : (c : Option ℕ) → s.class ≡ c → needs_types p (signature_in m s) ≡ needs_types q (signature_in m s)
      by_class None e = rw e refl
      by_class (Some k) e = rw e (ap (λ (b : Bool). s.is_checked || (s.is_constructor && b)) (same k (subst (IsClassBelow n) e h)))

  pub same_needs : (ss : List Signature) → AreSignatures m n ss → flat_map (signature_refusals p) (map (signature_in m) ss) ≡ flat_map (signature_refusals q) (map (signature_in m) ss)
  same_needs [] h = refl
  same_needs (s ∷ ss) h =
      ap (λ (rs : List Refusal). rs ++ flat_map (signature_refusals p) (map (signature_in m) ss)) (same_refusals s (h 0 s (omega arith)).0)
      ∙ ap (λ (rs : List Refusal). signature_refusals q (signature_in m s) ++ rs) (same_needs ss (λ i d lt. h (suc i) d (omega (arith, lt))))

-- ---- the marks of the classes that are reached

pub marks_size : (f : ℕ → Bool) (n : ℕ) (marks : List Bool) → marks ≡ map f (range_with_len 0 n) → length marks ≡ n
marks_size f n marks e = ap length e ∙ length-map-range_with_len f 0 n

marked_as : (f : ℕ → Bool) (n k : ℕ) (marks : List Bool) → marks ≡ map f (range_with_len 0 n) → k < n → marked marks k ≡ f k
marked_as f n k marks e lt = ap (λ (v : List Bool). marked v k) e ∙ get_or-map-range_with_len f 0 n k k false lt (omega arith)

abbrev pub lists_of : List (Vec ℕ) → List (List ℕ)
lists_of lists = map (λ (e : Vec ℕ). e.items) lists

module _ (m : State) (taken : List (Vec GivenType)) (lists : List (Vec ℕ)) (led : lists_of lists ≡ edges (all_given m taken)) where
  pub edges_size : length lists ≡ length taken
  edges_size = sym (length-map lists (λ (e : Vec ℕ). e.items)) ∙ ap length led ∙ length-map (all_given m taken) all_spoken ∙ length-map taken (λ (v : Vec GivenType). map (given_in m) v.items)

  module _ (ss : List Signature) (found : List ℕ) (seeded : found ≡ flat_map named_by (map (signature_in m) ss)) (marks : List Bool) (all : marks ≡ map (is_reached (lists_of lists) found) (range_with_len 0 (length lists))) where
    pub all_marks : length marks ≡ length taken
    all_marks = marks_size (is_reached (lists_of lists) found) (length lists) marks all ∙ edges_size

    same_marks : (k : ℕ) → k < length taken → marked marks k ≡ is_class_reached (all_given m taken) (map (signature_in m) ss) k
    same_marks k lt =
        marked_as (is_reached (lists_of lists) found) (length lists) k marks all (omega (arith, lt, edges_size))
        ∙ ap (λ (es : List (List ℕ)). is_reached es found k) led
        ∙ ap (λ (ks : List ℕ). is_reached (edges (all_given m taken)) ks k) seeded

    pub told_by_marks : AreSignatures m (length taken) ss → (old new : Option Refusal) → Tells old new (flat_map (signature_refusals (marked marks)) (map (signature_in m) ss)) → Tells old new (flat_map (signature_refusals (is_class_reached (all_given m taken) (map (signature_in m) ss))) (map (signature_in m) ss))
    told_by_marks h old new told = subst (λ (rs : List Refusal). Tells old new rs) (same_needs m (length taken) (marked marks) (is_class_reached (all_given m taken) (map (signature_in m) ss)) same_marks ss h) told
