-- What a solver answers.
use Rattle.std.specs.Prelude.{◌≡◌, ℕ, Bool, true, false, List}
use Rattle.refutation_check.specs.declared.lit.SatLit.{SatLit}
use Rattle.refutation_check.specs.Truth.{IsModel, HaveNoModel, has}
use Rattle.refutation_check.specs.Refutations.{IsAccepted}
use Rattle.sat_core.specs.Variables.{IsNamed}
use Rattle.sat_core.specs.declared.model.Solved.{Solved}
use Rattle.sat_core.specs.declared.model.Solved.TheVariants as solved

-- a variable is true where it is one of the literals of a model
abbrev pub model_value : List SatLit → ℕ → Bool
model_value lits x = has lits (record { var = x; positive = true })

-- all clauses and assumptions are true, and a variable that none of them names is false
pub record IsModelOf (clauses : List (List SatLit)) (assumptions lits : List SatLit) : Type 0 where
  pub holds : IsModel (model_value lits) clauses assumptions
  pub unnamed : (x : ℕ) → (IsNamed clauses assumptions x → ⊥) → model_value lits x ≡ false

-- the refutation is accepted, so there is no model
pub record IsRefutationOf (clauses : List (List SatLit)) (assumptions : List SatLit) (refutation : List (List SatLit)) : Type 0 where
  pub accepted : IsAccepted clauses assumptions refutation
  pub none : HaveNoModel clauses assumptions

-- an answer is a model or a refutation
abbrev pub IsAnswer : List (List SatLit) → List SatLit → Solved → Type 0
IsAnswer clauses assumptions (solved.Sat model) = IsModelOf clauses assumptions model
IsAnswer clauses assumptions (solved.Unsat refutation) = IsRefutationOf clauses assumptions refutation
