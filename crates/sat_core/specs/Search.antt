-- What a branch of the search knows and gives.
use Rattle.std.specs.Prelude.{◌≡◌, ℕ, true, false, List, [], ◌∷◌, ◌++◌, map, Contains, ◌⊎◌, Option, Some, None}
use Rattle.refutation_check.specs.declared.lit.SatLit.{SatLit}
use Rattle.refutation_check.specs.Truth.{negated}
use Rattle.refutation_check.specs.Refutations.{EachFollows}
use Rattle.sat_core.specs.Variables.{IsNamed}
use Rattle.sat_core.specs.Models.{IsModelOf}

-- a variable is split where it or its negation is one of the splits
abbrev pub IsSplit : List SatLit → ℕ → Type 0
IsSplit splits x = Contains splits (record { var = x; positive = true }) ⊎ Contains splits (record { var = x; positive = false })

-- each variable that is named is split or left, and no other one is
pub record IsCovered (clauses : List (List SatLit)) (assumptions : List SatLit) (vars : List ℕ) (splits : List SatLit) : Type 0 where
  pub all : (x : ℕ) → IsNamed clauses assumptions x → Contains vars x ⊎ IsSplit splits x
  pub vars_named : (x : ℕ) → Contains vars x → IsNamed clauses assumptions x
  pub splits_named : (l : SatLit) → Contains splits l → IsNamed clauses assumptions l.var

-- the refutation is still right, has what it had, and ends with the clause of the negated splits
pub record IsClosed (clauses : List (List SatLit)) (assumptions splits : List SatLit) (old new : List (List SatLit)) : Type 0 where
  pub each_follows : EachFollows clauses assumptions new
  pub kept : (c : List SatLit) → Contains old c → Contains new c
  pub earlier : List (List SatLit)
  pub ends : new ≡ earlier ++ map negated splits ∷ []

-- a branch gives a model, or is closed
abbrev pub IsSearched : List (List SatLit) → List SatLit → List SatLit → List (List SatLit) → List (List SatLit) → Option (List SatLit) → Type 0
IsSearched clauses assumptions splits old new (Some model) = IsModelOf clauses assumptions model
IsSearched clauses assumptions splits old new None = IsClosed clauses assumptions splits old new
