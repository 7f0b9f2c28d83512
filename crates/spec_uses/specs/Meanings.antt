-- What the names of a module stand for.
use Rattle.std.specs.Prelude.{ℕ, List, [], ◌∷◌, Option, Some, None, if◌then◌else◌}
use Rattle.std.specs.Option.{option_map}
use Rattle.std.specs.Str.{bytes_eq}
use Rattle.spec_trees.specs.Module.{Block, no_statement, statement}
use Rattle.spec_contracts.specs.ContractLines.{is_among, is_exception}
use Rattle.spec_names.specs.declared.builtins.Builtin.{Builtin}
use Rattle.spec_names.specs.declared.builtins.TheConstants.{BUILTINS}
use Rattle.spec_names.specs.Members.{given_if, Member, member_of}
use Rattle.spec_uses.specs.declared.Meaning.{Meaning}
use Rattle.spec_uses.specs.declared.Meaning.TheVariants as meaning
use Rattle.spec_names.specs.Members as member

-- what is there, or else this
abbrev pub otherwise : {X : Type 0} → Option X → X → X
otherwise None x = x
otherwise (Some y) x = y

-- what a name stands for by one definition, where that defines it
abbrev pub meant_by : Option Member → List ℕ → Option Meaning
meant_by None x = None
meant_by (Some member.unnamed) x = None
meant_by (Some (member.imported xs)) x = given_if (is_among xs x) meaning.Imported
meant_by (Some (member.constant y)) x = given_if (bytes_eq y x) meaning.Constant
meant_by (Some (member.function y)) x = given_if (bytes_eq y x) meaning.Function
meant_by (Some (member.class y)) x = given_if (bytes_eq y x) meaning.Class

abbrev pub or_else : {X : Type 0} → Option X → Option X → Option X
or_else None o = o
or_else (Some x) o = Some x

-- what it stands for by the definitions of a module, of which the first counts
abbrev pub defined_as : Block → List ℕ → Option Meaning
defined_as no_statement x = None
defined_as (statement s b) x = or_else (meant_by (member_of s) x) (defined_as b x)

-- the value of the first of these that has the name
abbrev pub first_named : {X Y : Type 0} → (X → List ℕ) → (X → Y) → List X → List ℕ → Option Y
first_named name_of value_of [] x = None
first_named name_of value_of (k ∷ ks) x = if bytes_eq (name_of k) x then Some (value_of k) else first_named name_of value_of ks x

abbrev pub builtin_of : List ℕ → Option Builtin
builtin_of x = first_named (λ k. k.0.now) (λ k. k.1) BUILTINS x

-- what a name stands for that no module defines
abbrev pub given_as : List ℕ → Meaning
given_as x = otherwise (option_map meaning.BuiltIn (builtin_of x)) (if is_exception x then meaning.Exception else meaning.Unknown)

-- The names of the module come first, then built-in functions, then exception classes.
abbrev pub meaning_in : Block → List ℕ → Meaning
meaning_in b x = otherwise (defined_as b x) (given_as x)

-- ---- scopes

-- What names stand for at some place, and the parameters that `__old__` has there.
pub record Scope : Type 0 where
  pub meaning : List ℕ → Meaning
  pub olds : List (List ℕ)

-- some names are local, and all others are those around
abbrev pub with_locals : List (List ℕ) → Scope → Scope
with_locals xs s = record { meaning = λ x. if is_among xs x then meaning.Local else s.meaning x; olds = s.olds }

abbrev pub module_scope : Block → Scope
module_scope b = record { meaning = meaning_in b; olds = [] }
