-- What a search by learning comes to.
use Rattle.std.specs.Prelude.{◌≡◌, Bool, true, false, List, [], ◌∷◌, ◌++◌}
use Rattle.refutation_check.specs.declared.lit.SatLit.{SatLit}
use Rattle.refutation_check.specs.Refutations.{Follows, EachFollows}
use Rattle.sat_core.specs.Models.{IsModelOf, IsRefutationOf}
use Rattle.sat_core.specs.declared.learning.Learning.{Learning}
use Rattle.sat_core.specs.declared.learning.Learning.TheVariants as learning

-- a model, or a refutation that is whole, or one that can be gone on with
abbrev pub IsLearning : List (List SatLit) → List SatLit → List (List SatLit) → Learning → Type 0
IsLearning clauses assumptions steps (learning.Model model) = IsModelOf clauses assumptions model
IsLearning clauses assumptions steps learning.Refuted = IsRefutationOf clauses assumptions steps
IsLearning clauses assumptions steps learning.Open = EachFollows clauses assumptions steps

-- a clause follows from what is known, and stands at the end of the refutation
pub record IsAppended (clauses : List (List SatLit)) (known : List SatLit) (old new : List (List SatLit)) (clause : List SatLit) : Type 0 where
  pub follows : Follows (clauses ++ old) known clause
  pub ends : new ≡ old ++ clause ∷ []

-- a clause is appended, or the refutation stays as it was
abbrev pub IsConfirmed : List (List SatLit) → List SatLit → List (List SatLit) → List (List SatLit) → List SatLit → Bool → Type 0
IsConfirmed clauses known old new clause true = IsAppended clauses known old new clause
IsConfirmed clauses known old new clause false = new ≡ old
