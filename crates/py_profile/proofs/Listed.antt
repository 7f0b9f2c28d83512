-- The names of a list, one after the other.
use Rattle.std.proofs.Common.{◌≡◌, ℕ, ◌+◌, ◌<◌, Bool, true, false, ◌||◌, List, [], ◌∷◌, length, drop, map, get_or, slice_get, slice_set, Some, refl, sym, ap, ◌∙◌}
use Rattle.std.specs.List.{list_any}
use Rattle.std.proofs.lemmas.Option.{get_or_from_slice_get}
use Rattle.spec_contracts.specs.ContractLines.{is_among}
use Rattle.spec_names.specs.Defined.{are_repeated, onto}
use Rattle.py_tree.specs.declared.ids.NameId.{NameId}
use Rattle.py_tree.specs.Names.{AreDistinct, text_of}
use Rattle.name_sets.specs.Marks.{marks_of}
use Rattle.name_sets.proofs.Marks.{mark_at, marks_more}
use Rattle.py_profile.proofs.Below.{names_from}

-- the default of reads, which is never seen
abbrev pub no_name : NameId
no_name = record { index = 0 }

pub text_found : (names : List (List ℕ)) (x : NameId) (t : List ℕ) → slice_get names x.index ≡ Some t → text_of names x ≡ t
text_found names x t e = get_or_from_slice_get names x.index t [] e

module _ (names : List (List ℕ)) (xs : List NameId) (i : ℕ) (d : NameId) (lt : i < length xs) where
  -- the name at the place i, and those behind it
  pub texts_from : map (text_of names) (drop i xs) ≡ text_of names (get_or xs i d) ∷ map (text_of names) (drop (i + 1) xs)
  texts_from = ap (map (text_of names)) (names_from xs i d lt)

  -- ---- whether one of them passes a test

  module _ (f : List ℕ → Bool) (t : List ℕ) (at : slice_get names (get_or xs i d).index ≡ Some t) (h : list_any f (map (text_of names) xs) ≡ list_any f (map (text_of names) (drop i xs))) where
    here : list_any f (map (text_of names) xs) ≡ (f t || list_any f (map (text_of names) (drop (i + 1) xs)))
    here = h ∙ ap (list_any f) texts_from ∙ ap (λ (v : List ℕ). f v || list_any f (map (text_of names) (drop (i + 1) xs))) (text_found names (get_or xs i d) t at)

    pub one_passes : f t ≡ true → list_any f (map (text_of names) xs) ≡ true
    one_passes e = here ∙ ap (λ (b : Bool). b || list_any f (map (text_of names) (drop (i + 1) xs))) e

    pub none_passes : f t ≡ false → list_any f (map (text_of names) xs) ≡ list_any f (map (text_of names) (drop (i + 1) xs))
    none_passes e = here ∙ ap (λ (b : Bool). b || list_any f (map (text_of names) (drop (i + 1) xs))) e

-- ---- names that are repeated

-- The names before the place i are added, and it is told whether one of them was there. What was there first is earlier.
pub record RepeatedTo (names : List (List ℕ)) (xs : List NameId) (earlier : List (List ℕ)) (set : List Bool) (told : Bool) (i : ℕ) : Type 0 where
  pub so_far : List (List ℕ)
  pub marks : set ≡ marks_of so_far names
  pub added : onto earlier (map (text_of names) xs) ≡ onto so_far (map (text_of names) (drop i xs))
  pub repeated : are_repeated earlier (map (text_of names) xs) ≡ (told || are_repeated so_far (map (text_of names) (drop i xs)))

module _ (names : List (List ℕ)) (xs : List NameId) (earlier : List (List ℕ)) where
  module _ (set : List Bool) (told : Bool) (i : ℕ) (h : RepeatedTo names xs earlier set told i) where
    pub repeated_more : (d : NameId) (is_there new : Bool) → AreDistinct names → i < length xs → (get_or xs i d).index < length names
        → slice_get set (get_or xs i d).index ≡ Some is_there → new ≡ (told || is_there) → RepeatedTo names xs earlier (slice_set set (get_or xs i d).index true) new (i + 1)
    repeated_more d is_there new distinct lt below there is =
        let x : NameId = get_or xs i d in
        let rest : List (List ℕ) = map (text_of names) (drop (i + 1) xs) in
        let mark : is_there ≡ is_among h.so_far (text_of names x) = sym (get_or_from_slice_get set x.index is_there false there) ∙ ap (λ (v : List Bool). get_or v x.index false) h.marks ∙ mark_at h.so_far names x.index false below in
        record {
          so_far = text_of names x ∷ h.so_far;
          marks = ap (λ (v : List Bool). slice_set v x.index true) h.marks ∙ marks_more h.so_far names x.index distinct below;
          added = h.added ∙ ap (onto h.so_far) (texts_from names xs i d lt);
          repeated = h.repeated ∙ ap (λ (v : List (List ℕ)). told || are_repeated h.so_far v) (texts_from names xs i d lt)
              ∙ or_assoc told (is_among h.so_far (text_of names x)) (are_repeated (text_of names x ∷ h.so_far) rest)
              ∙ ap (λ (b : Bool). (told || b) || are_repeated (text_of names x ∷ h.so_far) rest) (sym mark) ∙ ap (λ (b : Bool). b || are_repeated (text_of names x ∷ h.so_far) rest) (sym is);
        }
      where
        or_assoc : (a b c : Bool) → (a || (b || c)) ≡ ((a || b) || c)
        or_assoc true b c = refl
        or_assoc false b c = refl

pub told_there : (a b r : Bool) → b ≡ true → r ≡ true → r ≡ (a || b)
told_there true b r e f = f
told_there false b r e f = f ∙ sym e

pub told_before : (a b r : Bool) → b ≡ false → r ≡ a → r ≡ (a || b)
told_before true b r e f = f
told_before false b r e f = f ∙ sym e
