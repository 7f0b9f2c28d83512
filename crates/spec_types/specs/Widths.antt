-- How many values a type has, roughly, and which functions have too many.
use Rattle.std.specs.Prelude.{ℕ, zero, suc, Bool, false, ◌&&◌, ◌+◌, ◌*◌, nat_lt, List, [], ◌∷◌, get_or, Option, Some, None, if◌then◌else◌}
use Rattle.std.specs.List.{flat_map}
use Rattle.std.specs.Option.{option_map}
use Rattle.spec_trees.specs.Module.{Block}
use Rattle.spec_contracts.specs.ContractLines.{ContractLine}
use Rattle.spec_names.specs.declared.ProfileFault.TheVariants.{TooWide}
use Rattle.spec_names.specs.declared.Refusal.{Refusal}
use Rattle.spec_names.specs.Refusals.{refused_if}
use Rattle.spec_types.specs.Types.{ValueType, integer, truth, none, text, list_of, dict_of, option_of, instance}
use Rattle.spec_types.specs.Signatures.{Given, missing, unknown, known, Signature, signatures, taken}

-- the sum of two widths, where both are there
abbrev pub plus : Option ℕ → Option ℕ → Option ℕ
plus (Some a) (Some b) = Some (a + b)
plus a b = None

-- one more than so many times a width
abbrev pub times : ℕ → Option ℕ → Option ℕ
times n w = option_map (λ (a : ℕ). suc (n * a)) w

-- the width of a type, where lists have at most so many elements and classes have these widths
abbrev pub width_in : ℕ → (ℕ → Option ℕ) → ValueType → Option ℕ
width_in max_len of_class integer = Some 1
width_in max_len of_class truth = Some 1
width_in max_len of_class none = Some 1
width_in max_len of_class text = Some (suc max_len)
width_in max_len of_class (list_of t) = times max_len (width_in max_len of_class t)
width_in max_len of_class (dict_of k v) = times max_len (plus (width_in max_len of_class k) (width_in max_len of_class v))
width_in max_len of_class (option_of t) = width_in max_len of_class t
width_in max_len of_class (instance k) = of_class k

abbrev pub given_width : ℕ → (ℕ → Option ℕ) → Given → Option ℕ
given_width max_len of_class missing = None
given_width max_len of_class (unknown n) = None
given_width max_len of_class (known t) = width_in max_len of_class t

-- the widths of parameters together, where each has a type
abbrev pub total : ℕ → (ℕ → Option ℕ) → List Given → Option ℕ
total max_len of_class [] = Some 0
total max_len of_class (g ∷ gs) = plus (given_width max_len of_class g) (total max_len of_class gs)

-- The width of a class, of whose objects n may stand in each other: one more than what its constructor takes. Constructors
-- take these.
abbrev pub class_width : List (List Given) → ℕ → ℕ → ℕ → Option ℕ
class_width cs max_len zero k = Some 1
class_width cs max_len (suc n) k = option_map suc (total max_len (class_width cs max_len n) (get_or cs k []))

-- the width of an object of the function's own class that it takes
abbrev pub self_width : (ℕ → Option ℕ) → Signature → Option ℕ
self_width of_class s = if s.takes_self then by_class s.class else Some 0
  where
    by_class : Option ℕ → Option ℕ
    by_class None = Some 0
    by_class (Some k) = of_class k

-- The widths of the parameters of a function together. There is none where a constructor lacks a type.
abbrev pub width_of : ℕ → (ℕ → Option ℕ) → Signature → Option ℕ
width_of max_len of_class s = plus (self_width of_class s) (total max_len of_class s.types)

-- the greatest width of a checked function
abbrev pub greatest_width : ℕ
greatest_width = 4096

abbrev pub is_wider : ℕ → Option ℕ → Bool
is_wider n None = false
is_wider n (Some w) = nat_lt n w

-- the checked functions that are too wide, where classes have these widths
abbrev pub too_wide : ℕ → (ℕ → Option ℕ) → Signature → List Refusal
too_wide max_len of_class s = refused_if (s.is_checked && is_wider greatest_width (width_of max_len of_class s)) s.line TooWide

abbrev pub width_refusals : Block → List ContractLine → ℕ → ℕ → List Refusal
width_refusals b ls max_len max_nest = flat_map (too_wide max_len (class_width (taken b) max_len (suc max_nest))) (signatures b ls)
