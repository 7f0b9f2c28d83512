-- The classes that types speak of, from those of their parts.
use Rattle.std.proofs.Common.{◌≡◌, ℕ, ◌+◌, ◌<◌, Bool, true, false, List, [], ◌∷◌, ◌++◌, length, take, get_or, Option, Some, None, Result, refl, sym, ap, subst, append_assoc, ◌∙◌, if◌then◌else◌}
use Rattle.std.proofs.lemmas.Grind.{flat_map-append}
use Rattle.std.proofs.lemmas.List.{append-nil, take_more}
use Rattle.std.proofs.lemmas.Option.{same_Some}
use Rattle.std.specs.List.{flat_map}
use Rattle.std.specs.Option.{option_and_then}
use Rattle.std.specs.Prelude.{IfOk}
use Rattle.spec_types.specs.declared.TypeName.{TypeName}
use Rattle.spec_types.specs.declared.TypeName.TheVariants as name
use Rattle.spec_types.specs.Types.{ValueType, integer, truth, none, text, list_of, dict_of, option_of, instance, bracketed, is_key, onto, optional, others, spoken, united}

-- the classes of a type, which is this one
same_spoken : (w v : ValueType) → Some w ≡ Some v → spoken v ≡ spoken w
same_spoken w v e = ap spoken (sym (same_Some w v e))

spoken_optional : (t : ValueType) → spoken (optional t) ≡ spoken t
spoken_optional integer = refl
spoken_optional truth = refl
spoken_optional none = refl
spoken_optional text = refl
spoken_optional (list_of t) = refl
spoken_optional (dict_of t u) = refl
spoken_optional (option_of t) = refl
spoken_optional (instance k) = refl

one : (t : ValueType) → spoken t ≡ flat_map spoken (t ∷ [])
one t = sym (append-nil (spoken t))

-- ---- names with types in brackets

dict_spoken : (b : Bool) (k u v : ValueType) → (if b then Some (dict_of k u) else None) ≡ Some v → spoken v ≡ flat_map spoken (k ∷ u ∷ [])
dict_spoken true k u v e = same_spoken (dict_of k u) v e ∙ ap (λ (ys : List ℕ). spoken k ++ ys) (one u)
dict_spoken false k u v e = absurd cc

bracketed_spoken : (x : TypeName) (ts : List ValueType) (v : ValueType) → ((k : ℕ) → x ≡ name.Class k → ⊥) → bracketed x ts ≡ Some v → spoken v ≡ flat_map spoken ts
bracketed_spoken name.Unknown ts v n e = absurd cc
bracketed_spoken name.Int [] v n e = same_spoken integer v e
bracketed_spoken name.Int (t ∷ ts) v n e = absurd cc
bracketed_spoken name.Bool [] v n e = same_spoken truth v e
bracketed_spoken name.Bool (t ∷ ts) v n e = absurd cc
bracketed_spoken name.Str [] v n e = same_spoken text v e
bracketed_spoken name.Str (t ∷ ts) v n e = absurd cc
bracketed_spoken name.List [] v n e = absurd cc
bracketed_spoken name.List (t ∷ []) v n e = same_spoken (list_of t) v e ∙ one t
bracketed_spoken name.List (t ∷ u ∷ ts) v n e = absurd cc
bracketed_spoken name.Dict [] v n e = absurd cc
bracketed_spoken name.Dict (t ∷ []) v n e = absurd cc
bracketed_spoken name.Dict (t ∷ u ∷ []) v n e = dict_spoken (is_key t) t u v e
bracketed_spoken name.Dict (t ∷ u ∷ w ∷ ts) v n e = absurd cc
bracketed_spoken name.Optional [] v n e = absurd cc
bracketed_spoken name.Optional (t ∷ []) v n e = same_spoken (optional t) v e ∙ spoken_optional t ∙ one t
bracketed_spoken name.Optional (t ∷ u ∷ ts) v n e = absurd cc
bracketed_spoken (name.Class k) ts v n e = absurd (n k refl)

class_spoken : (k : ℕ) (ts : List ValueType) (v : ValueType) → bracketed (name.Class k) ts ≡ Some v → spoken v ≡ k ∷ []
class_spoken k [] v e = same_spoken (instance k) v e
class_spoken k (t ∷ ts) v e = absurd cc

-- ---- unions

none_speaks_of_nothing : (us : List ValueType) → flat_map spoken (others us) ≡ flat_map spoken us
none_speaks_of_nothing [] = refl
none_speaks_of_nothing (none ∷ us) = none_speaks_of_nothing us
none_speaks_of_nothing (integer ∷ us) = none_speaks_of_nothing us
none_speaks_of_nothing (truth ∷ us) = none_speaks_of_nothing us
none_speaks_of_nothing (text ∷ us) = none_speaks_of_nothing us
none_speaks_of_nothing (list_of t ∷ us) = ap (λ (ys : List ℕ). spoken t ++ ys) (none_speaks_of_nothing us)
none_speaks_of_nothing (dict_of t u ∷ us) = ap (λ (ys : List ℕ). (spoken t ++ spoken u) ++ ys) (none_speaks_of_nothing us)
none_speaks_of_nothing (option_of t ∷ us) = ap (λ (ys : List ℕ). spoken t ++ ys) (none_speaks_of_nothing us)
none_speaks_of_nothing (instance k ∷ us) = ap (λ (ys : List ℕ). k ∷ ys) (none_speaks_of_nothing us)

united_spoken : (ts : List ValueType) (v : ValueType) → united ts ≡ Some v → spoken v ≡ flat_map spoken ts
united_spoken [] v e = same_spoken none v e
united_spoken (t ∷ []) v e = same_spoken (optional t) v e ∙ spoken_optional t ∙ one t
united_spoken (t ∷ u ∷ ts) v e = absurd cc

-- ---- what is appended

module _ {E : Type 0} (r : Result Unit E) where
  pub by_brackets : (x : TypeName) (os : Option (List ValueType)) (old new : List ℕ) (v : ValueType) → ((k : ℕ) → x ≡ name.Class k → ⊥) → ((vs : List ValueType) → os ≡ Some vs → IfOk r (λ _. new ≡ old ++ flat_map spoken vs))
      → option_and_then (bracketed x) os ≡ Some v → IfOk r (λ _. new ≡ old ++ spoken v)
  by_brackets x None old new v n h e = absurd cc
  by_brackets x (Some ts) old new v n h e = subst (λ (ys : List ℕ). IfOk r (λ _. new ≡ old ++ ys)) (sym (bracketed_spoken x ts v n e)) (h ts refl)

  pub by_union : (o : Option ValueType) (os : Option (List ValueType)) (old mid new : List ℕ) (v : ValueType) → ((u : ValueType) → o ≡ Some u → mid ≡ old ++ spoken u) → ((vs : List ValueType) → os ≡ Some vs → IfOk r (λ _. new ≡ mid ++ flat_map spoken vs))
      → option_and_then (λ us. united (others us)) (onto o os) ≡ Some v → IfOk r (λ _. new ≡ old ++ spoken v)
  by_union None os old mid new v g h e = absurd cc
  by_union (Some u) None old mid new v g h e = absurd cc
  by_union (Some u) (Some us) old mid new v g h e =
      let all : spoken v ≡ spoken u ++ flat_map spoken us = united_spoken (others (u ∷ us)) v e ∙ none_speaks_of_nothing (u ∷ us) in
      let whole : mid ++ flat_map spoken us ≡ old ++ spoken v = ap (λ (ys : List ℕ). ys ++ flat_map spoken us) (g u refl) ∙ append_assoc old (spoken u) (flat_map spoken us) ∙ ap (λ (ys : List ℕ). old ++ ys) (sym all) in
      subst (λ (ys : List ℕ). IfOk r (λ _. new ≡ ys)) whole (h us refl)

pub by_class : (k : ℕ) (os : Option (List ValueType)) (old new : List ℕ) (v : ValueType) → new ≡ old ++ k ∷ [] → option_and_then (bracketed (name.Class k)) os ≡ Some v → new ≡ old ++ spoken v
by_class k None old new v h e = absurd cc
by_class k (Some ts) old new v h e = h ∙ ap (λ (ys : List ℕ). old ++ ys) (sym (class_spoken k ts v e))

-- the classes of one type more
pub spoken_more : (vs : List ValueType) (i : ℕ) (old mid new : List ℕ) → i < length vs → mid ≡ old ++ flat_map spoken (take i vs) → new ≡ mid ++ spoken (get_or vs i none) → new ≡ old ++ flat_map spoken (take (i + 1) vs)
spoken_more vs i old mid new lt e f =
    f ∙ ap (λ (ys : List ℕ). ys ++ spoken (get_or vs i none)) e ∙ append_assoc old (flat_map spoken (take i vs)) (spoken (get_or vs i none)) ∙ ap (λ (ys : List ℕ). old ++ ys) (sym more)
  where
    more : flat_map spoken (take (i + 1) vs) ≡ flat_map spoken (take i vs) ++ spoken (get_or vs i none)
    more = ap (flat_map spoken) (take_more vs i none lt) ∙ flat_map-append spoken (take i vs) (get_or vs i none ∷ []) ∙ ap (λ (ys : List ℕ). flat_map spoken (take i vs) ++ ys) (append-nil (spoken (get_or vs i none)))
