-- Sets of the names of a module.
use Rattle.std.specs.Prelude.{ℕ, Bool, List, map}
use Rattle.spec_contracts.specs.ContractLines.{is_among}

-- the names of a module, each told whether it is one of these
abbrev pub marks_of : List (List ℕ) → List (List ℕ) → List Bool
marks_of these names = map (is_among these) names
