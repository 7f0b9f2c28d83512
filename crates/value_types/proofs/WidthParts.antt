-- The widths of types, from those of their parts.
use Rattle.std.proofs.Common.{◌≡◌, ℕ, zero, suc, ◌+◌, ◌<◌, ◌≤◌, Bool, true, false, List, [], ◌∷◌, ◌++◌, length, take, drop, drop-cons, get_or, Option, Some, None, ◌⊎◌, inl, inr, refl, sym, ap, arith, add_assoc, ◌∙◌, if◌then◌else◌}
use Rattle.std.proofs.lemmas.Grind.{common_steps}
use Rattle.std.proofs.lemmas.List.{take_all, take_more}
use Rattle.std.proofs.lemmas.Option.{same_Some}
use Rattle.std.specs.Option.{option_and_then, option_map}
use Rattle.spec_types.specs.declared.TypeName.{TypeName}
use Rattle.spec_types.specs.declared.TypeName.TheVariants as name
use Rattle.spec_types.specs.Types.{ValueType, integer, truth, none, text, list_of, dict_of, option_of, instance, bracketed, is_key, is_none, onto, optional, others, united}
use Rattle.spec_types.specs.Widths.{plus, times, width_in}
use Rattle.value_types.specs.Widths.{capped, first_other, widths}
use Rattle.value_types.proofs.Capped.{capped_plus, capped_times}

plus_assoc : (a b c : Option ℕ) → plus a (plus b c) ≡ plus (plus a b) c
plus_assoc None b c = refl
plus_assoc (Some a) None c = refl
plus_assoc (Some a) (Some b) None = refl
plus_assoc (Some a) (Some b) (Some c) = ap (λ (n : ℕ). Some n) (sym (add_assoc a b c))

plus_none : (a : Option ℕ) → plus a (Some 0) ≡ a
plus_none None = refl
plus_none (Some a) = ap (λ (n : ℕ). Some n) (omega arith)

none_plus : (a : Option ℕ) → plus (Some 0) a ≡ a
none_plus None = refl
none_plus (Some a) = ap (λ (n : ℕ). Some n) (omega arith)

pub drop_at : (vs : List ValueType) (i : ℕ) → i < length vs → drop i vs ≡ get_or vs i none ∷ drop (i + 1) vs
drop_at vs i lt = grind (arith, common_steps, drop-cons)

drop_all : (vs : List ValueType) (i : ℕ) → length vs ≤ i → drop i vs ≡ []
drop_all [] zero le = refl
drop_all [] (suc i) le = refl
drop_all (v ∷ vs) zero le = absurd (omega arith)
drop_all (v ∷ vs) (suc i) le = drop_all vs i (omega arith)

-- ---- the first that is not None

first_of : List ValueType → ValueType
first_of [] = none
first_of (t ∷ ts) = t

-- the first type that is not None is the one at i, where those before it are None
pub first_at : (vs : List ValueType) (i : ℕ) → i < length vs → first_other (drop i vs) ≡ first_other vs → is_none (get_or vs i none) ≡ false → first_other vs ≡ get_or vs i none
first_at vs i lt h n = sym h ∙ ap first_other (drop_at vs i lt) ∙ ap (λ (b : Bool). if b then first_other (drop (i + 1) vs) else get_or vs i none) n

pub first_behind : (vs : List ValueType) (i : ℕ) → i < length vs → first_other (drop i vs) ≡ first_other vs → is_none (get_or vs i none) ≡ true → first_other (drop (i + 1) vs) ≡ first_other vs
first_behind vs i lt h n = sym (ap first_other (drop_at vs i lt) ∙ ap (λ (b : Bool). if b then first_other (drop (i + 1) vs) else get_or vs i none) n) ∙ h

pub no_other : (vs : List ValueType) (i : ℕ) → length vs ≤ i → first_other (drop i vs) ≡ first_other vs → first_other vs ≡ none
no_other vs i le h = sym h ∙ ap first_other (drop_all vs i le)

module _ (m : ℕ) (f : ℕ → Option ℕ) where
  width_optional : (t : ValueType) → width_in m f (optional t) ≡ width_in m f t
  width_optional integer = refl
  width_optional truth = refl
  width_optional none = refl
  width_optional text = refl
  width_optional (list_of t) = refl
  width_optional (dict_of t u) = refl
  width_optional (option_of t) = refl
  width_optional (instance k) = refl

  same_width : (w v : ValueType) → Some w ≡ Some v → width_in m f v ≡ width_in m f w
  same_width w v e = ap (width_in m f) (sym (same_Some w v e))

  -- ---- several types

  widths_push : (ts : List ValueType) (t : ValueType) → widths m f (ts ++ t ∷ []) ≡ plus (widths m f ts) (width_in m f t)
  widths_push [] t = plus_none (width_in m f t) ∙ sym (none_plus (width_in m f t))
  widths_push (u ∷ ts) t = ap (plus (width_in m f u)) (widths_push ts t) ∙ plus_assoc (width_in m f u) (widths m f ts) (width_in m f t)

  pub total_more : (vs : List ValueType) (i : ℕ) (total w : Option ℕ) → i < length vs → total ≡ option_map capped (widths m f (take i vs)) → w ≡ option_map capped (width_in m f (get_or vs i none)) → option_map capped (plus total w) ≡ option_map capped (widths m f (take (i + 1) vs))
  total_more vs i total w lt g h =
      rw (g, h) (capped_plus (widths m f (take i vs)) (width_in m f (get_or vs i none))) ∙ sym (ap (λ (ts : List ValueType). option_map capped (widths m f ts)) (take_more vs i none lt) ∙ ap (option_map capped) (widths_push (take i vs) (get_or vs i none)))

  pub total_all : (vs : List ValueType) (i : ℕ) (total : Option ℕ) → length vs ≤ i → total ≡ option_map capped (widths m f (take i vs)) → total ≡ option_map capped (widths m f vs)
  total_all vs i total le g = g ∙ ap (λ (ts : List ValueType). option_map capped (widths m f ts)) (take_all i vs le)

  -- ---- types in brackets

  list_width : (ts : List ValueType) (v : ValueType) → bracketed name.List ts ≡ Some v → width_in m f v ≡ times m (widths m f ts)
  list_width [] v e = absurd cc
  list_width (t ∷ []) v e = same_width (list_of t) v e ∙ sym (ap (times m) (plus_none (width_in m f t)))
  list_width (t ∷ u ∷ ts) v e = absurd cc

  dict_with : (b : Bool) (k u v : ValueType) → (if b then Some (dict_of k u) else None) ≡ Some v → width_in m f v ≡ times m (widths m f (k ∷ u ∷ []))
  dict_with true k u v e = same_width (dict_of k u) v e ∙ sym (ap (λ (w : Option ℕ). times m (plus (width_in m f k) w)) (plus_none (width_in m f u)))
  dict_with false k u v e = absurd cc

  dict_width : (ts : List ValueType) (v : ValueType) → bracketed name.Dict ts ≡ Some v → width_in m f v ≡ times m (widths m f ts)
  dict_width [] v e = absurd cc
  dict_width (k ∷ []) v e = absurd cc
  dict_width (k ∷ u ∷ []) v e = dict_with (is_key k) k u v e
  dict_width (k ∷ u ∷ t ∷ ts) v e = absurd cc

  option_width : (ts : List ValueType) (v : ValueType) → bracketed name.Optional ts ≡ Some v → width_in m f v ≡ widths m f ts
  option_width [] v e = absurd cc
  option_width (t ∷ []) v e = same_width (optional t) v e ∙ width_optional t ∙ sym (plus_none (width_in m f t))
  option_width (t ∷ u ∷ ts) v e = absurd cc

  module _ (os : Option (List ValueType)) (r : Option ℕ) (h : (ts : List ValueType) → os ≡ Some ts → r ≡ option_map capped (widths m f ts)) where
    by_elements : (x : TypeName) → ((ts : List ValueType) (v : ValueType) → bracketed x ts ≡ Some v → width_in m f v ≡ times m (widths m f ts)) → (v : ValueType) → option_and_then (bracketed x) os ≡ Some v → option_map capped (times m r) ≡ option_map capped (width_in m f v)
    by_elements x g v e = by_types os h e
      where
        by_types : (ps : Option (List ValueType)) → ((ts : List ValueType) → ps ≡ Some ts → r ≡ option_map capped (widths m f ts)) → option_and_then (bracketed x) ps ≡ Some v → option_map capped (times m r) ≡ option_map capped (width_in m f v)
        by_types None k d = absurd cc
        by_types (Some ts) k d = ap (λ (w : Option ℕ). option_map capped (times m w)) (k ts refl) ∙ capped_times m (widths m f ts) ∙ sym (ap (option_map capped) (g ts v d))

    pub by_list_or_dict : (x : TypeName) → (x ≡ name.List) ⊎ (x ≡ name.Dict) → (v : ValueType) → option_and_then (bracketed x) os ≡ Some v → option_map capped (times m r) ≡ option_map capped (width_in m f v)
    by_list_or_dict x (inl e) = by_elements x (λ ts v d. list_width ts v (rw e at d))
    by_list_or_dict x (inr e) = by_elements x (λ ts v d. dict_width ts v (rw e at d))

    pub by_option : (v : ValueType) → option_and_then (bracketed name.Optional) os ≡ Some v → r ≡ option_map capped (width_in m f v)
    by_option v e = by_types os h e
      where
        by_types : (ps : Option (List ValueType)) → ((ts : List ValueType) → ps ≡ Some ts → r ≡ option_map capped (widths m f ts)) → option_and_then (bracketed name.Optional) ps ≡ Some v → r ≡ option_map capped (width_in m f v)
        by_types None k d = absurd cc
        by_types (Some ts) k d = k ts refl ∙ sym (ap (option_map capped) (option_width ts v d))

  -- ---- unions

  first_of_others : (us : List ValueType) → first_of (others us) ≡ first_other us
  unfolding first_of
  first_of_others [] = refl
  first_of_others (u ∷ us) = by_test (is_none u) (first_of_others us)
    where
      by_test : (b : Bool) → first_of (others us) ≡ first_other us → first_of (if b then others us else u ∷ others us) ≡ (if b then first_other us else u)
      by_test true h = h
      by_test false h = refl

  united_width : (ts : List ValueType) (v : ValueType) → united ts ≡ Some v → width_in m f v ≡ width_in m f (first_of ts)
  unfolding first_of
  united_width [] v e = same_width none v e
  united_width (t ∷ []) v e = same_width (optional t) v e ∙ width_optional t
  united_width (t ∷ u ∷ ts) v e = absurd cc

  union_width : (us : List ValueType) (v : ValueType) → united (others us) ≡ Some v → width_in m f v ≡ width_in m f (first_other us)
  union_width us v e = united_width (others us) v e ∙ ap (width_in m f) (first_of_others us)

  -- the first type is None
  pub behind_none : (o : Option ValueType) (os : Option (List ValueType)) (v : ValueType) (r : Option ℕ) → ((u : ValueType) → o ≡ Some u → true ≡ is_none u) → ((us : List ValueType) → os ≡ Some us → r ≡ option_map capped (width_in m f (first_other us)))
      → option_and_then (λ us. united (others us)) (onto o os) ≡ Some v → r ≡ option_map capped (width_in m f v)
  behind_none None os v r n h e = absurd cc
  behind_none (Some u) None v r n h e = absurd cc
  behind_none (Some u) (Some us) v r n h e = h us refl ∙ sym (ap (option_map capped) (union_width (u ∷ us) v e ∙ ap (λ (b : Bool). width_in m f (if b then first_other us else u)) (sym (n u refl))))

  -- it is another type
  pub other_first : (o : Option ValueType) (os : Option (List ValueType)) (v : ValueType) (r : Option ℕ) → ((u : ValueType) → o ≡ Some u → false ≡ is_none u) → ((u : ValueType) → o ≡ Some u → r ≡ option_map capped (width_in m f u))
      → option_and_then (λ us. united (others us)) (onto o os) ≡ Some v → r ≡ option_map capped (width_in m f v)
  other_first None os v r n h e = absurd cc
  other_first (Some u) None v r n h e = absurd cc
  other_first (Some u) (Some us) v r n h e = h u refl ∙ sym (ap (option_map capped) (union_width (u ∷ us) v e ∙ ap (λ (b : Bool). width_in m f (if b then first_other us else u)) (sym (n u refl))))
