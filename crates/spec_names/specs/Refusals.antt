-- Why a module is refused for its names or statements, and which refusal is told.
use Rattle.std.specs.Prelude.{ℕ, Bool, List, [], ◌∷◌, Option, if◌then◌else◌}
use Rattle.spec_refusals.specs.Soonest.{soonest}
use Rattle.spec_names.specs.declared.ProfileFault.{ProfileFault}
use Rattle.spec_names.specs.declared.ProfileFault.TheVariants.{UnknownName, Duplicate, MissingType, UnknownType, ModuleStatement, TooWide, Form}
use Rattle.spec_names.specs.declared.Refusal.{Refusal}

abbrev pub refused_if : Bool → ℕ → ProfileFault → List Refusal
refused_if b n f = if b then record { line = n; fault = f } ∷ [] else []

abbrev pub rank : ProfileFault → ℕ
rank UnknownName = 1
rank Duplicate = 2
rank MissingType = 3
rank UnknownType = 4
rank ModuleStatement = 5
rank TooWide = 6
rank Form = 7

abbrev pub line_in : Refusal → ℕ
line_in r = r.line

abbrev pub number_in : Refusal → ℕ
number_in r = rank r.fault

-- the refusal with the smallest line, and at one line the one whose fault stands first
abbrev pub first_refusal : List Refusal → Option Refusal
first_refusal rs = soonest line_in number_in rs
