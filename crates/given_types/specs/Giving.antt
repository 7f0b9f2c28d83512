-- What the code holds of given types, as the definitions tell it.
use Rattle.std.specs.Prelude.{◌≡◌, ◌<◌, ℕ, true, List, length, map, Option, Some, None}
use Rattle.std.specs.Global.{Vec}
use Rattle.std.specs.List.{All}
use Rattle.std.specs.Option.{is_some}
use Rattle.spec_types.specs.Names.{type_name}
use Rattle.spec_types.specs.Types.{ValueType, type_in}
use Rattle.spec_types.specs.Signatures as types
use Rattle.spec_types.specs.Signatures.{Given, missing, unknown, given_as}
use Rattle.py_tree.specs.declared.ids.TypeId.{TypeId}
use Rattle.py_tree.specs.Arena.{State, module_tree, shown_type}
use Rattle.given_types.specs.declared.GivenType.{GivenType}
use Rattle.given_types.specs.declared.GivenType.TheVariants.{Missing, Unknown, Known}
use Rattle.given_types.specs.declared.Signature.{Signature}

-- the class of a function is one of the first n
abbrev pub IsClassBelow : ℕ → Option ℕ → Type 0
IsClassBelow n None = Unit {0}
IsClassBelow n (Some k) = k < n

module _ (m : State) where
  -- the type of a module that this is
  abbrev pub type_at : TypeId → Option ValueType
  type_at t = type_in (type_name (module_tree m).body) (shown_type m t.index)

  -- what a parameter is given; what is known is a type
  abbrev pub given_in : GivenType → Given
  given_in Missing = missing
  given_in (Unknown n) = unknown n
  given_in (Known t) = given_as 0 (type_at t)

  abbrev pub IsGiven : GivenType → Type 0
  IsGiven Missing = Unit {0}
  IsGiven (Unknown n) = Unit {0}
  IsGiven (Known t) = (t.index < length m.types) × (is_some (type_at t) ≡ true)

  -- what the parameters of functions are given, one list for each
  abbrev pub all_given : List (Vec GivenType) → List (List Given)
  all_given xs = map (λ (v : Vec GivenType). map given_in v.items) xs

  abbrev pub AreGiven : List (Vec GivenType) → Type 0
  AreGiven xs = All (λ (v : Vec GivenType). All IsGiven v.items) xs

  abbrev pub signature_in : Signature → types.Signature
  signature_in s = record {
    line = s.line;
    is_checked = s.is_checked;
    class = s.class;
    is_constructor = s.is_constructor;
    takes_self = s.takes_self;
    types = map given_in s.types.items;
  }

  abbrev pub IsSignature : ℕ → Signature → Type 0
  IsSignature n s = IsClassBelow n s.class × All IsGiven s.types.items

  -- functions of a module with n classes
  abbrev pub AreSignatures : ℕ → List Signature → Type 0
  AreSignatures n xs = All (IsSignature n) xs
