-- Which parameters need a type, and which of these have none.
use Rattle.std.specs.Prelude.{ℕ, Bool, false, ◌&&◌, ◌||◌, List, [], ◌∷◌, ◌++◌, map, Option, Some, None, if◌then◌else◌}
use Rattle.std.specs.List.{flat_map}
use Rattle.spec_trees.specs.Module.{Block}
use Rattle.spec_contracts.specs.ContractLines.{ContractLine}
use Rattle.spec_names.specs.declared.ProfileFault.TheVariants.{MissingType, UnknownType}
use Rattle.spec_names.specs.declared.Refusal.{Refusal}
use Rattle.spec_uses.specs.Expressions.{refused}
use Rattle.spec_types.specs.Types.{spoken}
use Rattle.spec_types.specs.Signatures.{Given, missing, unknown, known, Signature, signatures, taken}
use Rattle.spec_types.specs.Reached.{is_reached}

-- ---- reached classes

abbrev pub spoken_in : Given → List ℕ
spoken_in missing = []
spoken_in (unknown n) = []
spoken_in (known t) = spoken t

-- the classes that the types of some parameters speak of
abbrev pub all_spoken : List Given → List ℕ
all_spoken gs = flat_map spoken_in gs

abbrev pub class_in : Option ℕ → List ℕ
class_in None = []
class_in (Some k) = k ∷ []

-- the class of a checked function, and those that the types of its parameters speak of
abbrev pub named_by : Signature → List ℕ
named_by s = if s.is_checked then class_in s.class ++ all_spoken s.types else []

-- A class leads to those that the types of its constructor speak of.
abbrev pub edges : List (List Given) → List (List ℕ)
edges cs = map all_spoken cs

-- whether a class is reached from checked functions
abbrev pub is_class_reached : List (List Given) → List Signature → ℕ → Bool
is_class_reached cs ss k = is_reached (edges cs) (flat_map named_by ss) k

-- ---- refusals

-- The parameters of checked functions need types, and those of constructors of classes that are reached.
abbrev pub needs_types : (ℕ → Bool) → Signature → Bool
needs_types reached s = s.is_checked || (s.is_constructor && by_class s.class)
  where
    by_class : Option ℕ → Bool
    by_class None = false
    by_class (Some k) = reached k

-- a parameter that needs a type, of a function on the line n
abbrev pub type_refusals : ℕ → Given → List Refusal
type_refusals n missing = refused n MissingType
type_refusals n (unknown m) = refused m UnknownType
type_refusals n (known t) = []

abbrev pub signature_refusals : (ℕ → Bool) → Signature → List Refusal
signature_refusals reached s = if needs_types reached s then flat_map (type_refusals s.line) s.types else []

abbrev pub need_refusals : Block → List ContractLine → List Refusal
need_refusals b ls = flat_map (signature_refusals (is_class_reached (taken b) (signatures b ls))) (signatures b ls)
