-- The types that are not None in a union.
use Rattle.std.proofs.Common.{◌≡◌, suc, List, [], ◌∷◌, length, Option, Some, None, refl}
use Rattle.std.specs.Option.{option_and_then, option_map}
use Rattle.spec_types.specs.declared.TypeKind.{TypeKind}
use Rattle.spec_types.specs.declared.TypeKind.TheVariants as kind
use Rattle.spec_types.specs.Types.{ValueType, integer, truth, none, text, list_of, dict_of, option_of, instance, kind_of, onto, others, united}
use Rattle.value_types.specs.Kinds.{joined_kind, others_count}

-- another type than None, behind None and before others that are not
one_other : (v : ValueType) (ts : List ValueType) → (kind_of v ≡ kind.None → ⊥) → joined_kind (Some kind.None) (Some (suc (length ts))) ≡ option_map kind_of (united (v ∷ ts))
one_other integer [] n = refl
one_other truth [] n = refl
one_other none [] n = absurd (n refl)
one_other text [] n = refl
one_other (list_of t) [] n = refl
one_other (dict_of t u) [] n = refl
one_other (option_of t) [] n = refl
one_other (instance k) [] n = refl
one_other v (t ∷ ts) n = refl

behind_none : (us : List ValueType) → joined_kind (Some kind.None) (Some (length (others us))) ≡ option_map kind_of (united (others us))
behind_none [] = refl
behind_none (none ∷ us) = behind_none us
behind_none (integer ∷ us) = one_other integer (others us) (λ e. cc)
behind_none (truth ∷ us) = one_other truth (others us) (λ e. cc)
behind_none (text ∷ us) = one_other text (others us) (λ e. cc)
behind_none (list_of t ∷ us) = one_other (list_of t) (others us) (λ e. cc)
behind_none (dict_of t u ∷ us) = one_other (dict_of t u) (others us) (λ e. cc)
behind_none (option_of t ∷ us) = one_other (option_of t) (others us) (λ e. cc)
behind_none (instance k ∷ us) = one_other (instance k) (others us) (λ e. cc)

-- a type that is a key, or another one that is not None, before others
key_first : (v : ValueType) (ts : List ValueType) → kind_of v ≡ kind.Key → joined_kind (Some kind.Key) (Some (length ts)) ≡ option_map kind_of (united (v ∷ ts))
key_first integer [] e = refl
key_first truth [] e = refl
key_first none [] e = cc
key_first text [] e = refl
key_first (list_of t) [] e = cc
key_first (dict_of t u) [] e = cc
key_first (option_of t) [] e = cc
key_first (instance k) [] e = cc
key_first v (t ∷ ts) e = refl

other_first : (v : ValueType) (ts : List ValueType) → kind_of v ≡ kind.Other → joined_kind (Some kind.Other) (Some (length ts)) ≡ option_map kind_of (united (v ∷ ts))
other_first integer [] e = cc
other_first truth [] e = cc
other_first none [] e = cc
other_first text [] e = cc
other_first (list_of t) [] e = refl
other_first (dict_of t u) [] e = refl
other_first (option_of t) [] e = refl
other_first (instance k) [] e = refl
other_first v (t ∷ ts) e = refl

joined_types : (v : ValueType) (us : List ValueType) → joined_kind (Some (kind_of v)) (Some (length (others us))) ≡ option_map kind_of (united (others (v ∷ us)))
joined_types none us = behind_none us
joined_types integer us = key_first integer (others us) refl
joined_types truth us = key_first truth (others us) refl
joined_types text us = key_first text (others us) refl
joined_types (list_of t) us = other_first (list_of t) (others us) refl
joined_types (dict_of t u) us = other_first (dict_of t u) (others us) refl
joined_types (option_of t) us = other_first (option_of t) (others us) refl
joined_types (instance k) us = other_first (instance k) (others us) refl

pub joined_is : (o : Option ValueType) (os : Option (List ValueType)) → joined_kind (option_map kind_of o) (others_count os) ≡ option_map kind_of (option_and_then (λ us. united (others us)) (onto o os))
joined_is None os = refl
joined_is (Some v) None = by_kind (kind_of v)
  where
    by_kind : (k : TypeKind) → joined_kind (Some k) None ≡ None
    by_kind kind.Key = refl
    by_kind kind.None = refl
    by_kind kind.Other = refl
joined_is (Some v) (Some us) = joined_types v us
