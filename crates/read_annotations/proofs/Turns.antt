-- Annotations that are read one after the other, while the module grows.
use Rattle.std.proofs.Common.{◌≡◌, ℕ, zero, suc, ◌+◌, ◌<◌, ◌≤◌, List, [], ◌∷◌, ◌++◌, length, map, drop, append-nil, get_or, Option, Some, None, refl, sym, ap, arith, ◌∙◌}
use Rattle.std.proofs.lemmas.List.{append_assoc, map-append}
use Rattle.std.proofs.lemmas.List.Elements.{All-push}
use Rattle.std.specs.Global.{Vec}
use Rattle.std.specs.List.{All}
use Rattle.py_tree.specs.declared.ids.TypeId.{TypeId}
use Rattle.py_tree.specs.Arena.{State, IsModule, shown_type}
use Rattle.py_tree.specs.Types.{IsTypeBelow, optional_type}
use Rattle.py_tree.proofs.Arenas.{optional_type_kept, shown_type_kept, types_grow}
use Rattle.py_types.specs.Given.{Grows}
use Rattle.py_types.proofs.Growth.{grows_then}
use Rattle.unquoted_types.proofs.Turns.{drop_all, drop_from}
use Rattle.read_annotations.specs.declared.annotation.Annotation.{Annotation}
use Rattle.read_annotations.specs.Reading.{AreThere, AreWritten, IsThere, read, shown_all, shown_in, written}

-- ---- things of a list

all_none : {X : Type 0} (P : X → Type 0) → All P []
all_none P = λ k d lt. absurd (omega arith)

module _ {X : Type 0} (P : X → Type 0) (x : X) (xs : List X) (h : All P (x ∷ xs)) where
  all_first : P x
  all_first = h 0 x (omega arith)

  all_behind : All P xs
  all_behind = λ k d lt. h (suc k) d (omega arith)

-- what holds of each thing where it held before, and what each comes to, which stays
module _ {X Y : Type 0} (P Q : X → Type 0) (f g : X → Y) (kept : (x : X) → P x → Q x × (g x ≡ f x)) where
  pub all_kept : (xs : List X) → All P xs → All Q xs × (map g xs ≡ map f xs)
  all_kept [] h = (all_none Q, refl)
  all_kept (x ∷ xs) h =
      let here = kept x (all_first P x xs h) in
      let rest = all_kept xs (all_behind P x xs h) in
      (joined here.0 rest.0, rw (here.1, rest.1) refl)
    where
      joined : Q x → All Q xs → All Q (x ∷ xs)
      joined q r = λ k d lt. by_place k d lt
        where
          by_place : (k : ℕ) (d : X) → k < length (x ∷ xs) → Q (get_or (x ∷ xs) k d)
          by_place zero d lt = q
          by_place (suc k) d lt = r k d (omega arith)

-- ---- while a module grows

module _ (m n : State) (g : Grows m n) (v : IsModule m) where
  pub type_kept : (o : Option TypeId) → IsTypeBelow (length m.types) o → IsTypeBelow (length n.types) o × (optional_type (shown_type n) o ≡ optional_type (shown_type m) o)
  type_kept None h = (tt, refl)
  type_kept (Some t) h = let more = types_grow m n g.extends in (omega (arith, h, more), optional_type_kept m n g.extends v (Some t) h)

  pub written_kept : (xs : List (Option TypeId)) → AreWritten m xs → AreWritten n xs × (written n xs ≡ written m xs)
  written_kept xs h = all_kept (IsTypeBelow (length m.types)) (IsTypeBelow (length n.types)) (λ o. read (optional_type (shown_type m) o)) (λ o. read (optional_type (shown_type n) o))
      (λ o there. let k = type_kept o there in (k.0, ap read k.1)) xs h

  pub annotation_kept : (o : Option Annotation) → IsThere m o → IsThere n o × (shown_in n o ≡ shown_in m o)
  annotation_kept None h = (tt, refl)
  annotation_kept (Some a) h = by_type a.unquoted refl
    where
      by_type : (o : Option TypeId) → a.unquoted ≡ o → IsThere n (Some a) × (shown_in n (Some a) ≡ shown_in m (Some a))
      by_type None e = rw e (tt, refl)
      by_type (Some t) e =
          let there : t.index < length m.types = rw e at h in
          let more = types_grow m n g.extends in
          rw (e, shown_type_kept m n t.index g.extends v there) (omega (arith, there, more), refl)

  pub annotations_kept : (x : Vec (Option Annotation)) → AreThere m x.items → AreThere n x.items × (shown_all n x.items ≡ shown_all m x.items)
  annotations_kept x h = all_kept (IsThere m) (IsThere n) (shown_in m) (shown_in n) annotation_kept x.items h

-- ---- one after the other

-- Of these things, those before the place i are made.
module _ {W X Y : Type 0} (f : W → Y) (shown : State → X → Y) (There : State → X → Type 0) (kept : (m n : State) → Grows m n → IsModule m → (x : X) → There m x → There n x × (shown n x ≡ shown m x)) (ws : List W) (old : State) where
  pub record MadeTo (now : State) (made : List X) (i : ℕ) : Type 0 where
    pub grown : Grows old now
    pub there : All (There now) made
    pub all : map (shown now) made ++ map f (drop i ws) ≡ map f ws

  pub made_none : (made : List X) → Grows old old → made ≡ [] → MadeTo old made 0
  made_none made g e = rw e (record { grown = g; there = all_none (There old); all = refl })

  module _ (now : State) (made : List X) (i : ℕ) (h : MadeTo now made i) where
    pub made_more : (new : State) (x : X) (more : List X) (d : W) → i < length ws → Grows now new → There new x → shown new x ≡ f (get_or ws i d) → more ≡ made ++ x ∷ [] → MadeTo new more (i + 1)
    made_more new x more d lt g t is e =
        let before = all_kept (There now) (There new) (shown now) (shown new) (kept now new g h.grown.valid) made h.there in
        rw e (record {
          grown = grows_then old now new h.grown g;
          there = All-push (There new) made x before.0 t;
          all = ap (λ (v : List Y). v ++ map f (drop (i + 1) ws)) (map-append (shown new) made (x ∷ [])) ∙ append_assoc (map (shown new) made) (shown new x ∷ []) (map f (drop (i + 1) ws))
              ∙ ap (λ (v : List Y). v ++ shown new x ∷ map f (drop (i + 1) ws)) before.1
              ∙ ap (λ (y : Y). map (shown now) made ++ y ∷ map f (drop (i + 1) ws)) is
              ∙ sym (ap (λ (v : List W). map (shown now) made ++ map f v) (drop_from ws i d lt))
              ∙ h.all;
        })

    pub made_all : length ws ≤ i → map (shown now) made ≡ map f ws
    made_all le = sym (append-nil (map (shown now) made)) ∙ sym (ap (λ (v : List W). map (shown now) made ++ map f v) (drop_all ws i le)) ∙ h.all
