-- What is told in a scope.
use Rattle.std.specs.Prelude.{◌≡◌, ℕ, List, Option}
use Rattle.spec_names.specs.declared.Refusal.{Refusal}
use Rattle.spec_uses.specs.Meanings.{Scope}
use Rattle.told_refusals.specs.Telling.{Tells}
use Rattle.name_scopes.specs.Showing.{Held, Shows}

-- What is held is left as it was, and what was told goes on by the refusals in its scope.
pub record Walks (names : List (List ℕ)) (old new : Held) (told more : Option Refusal) (refusals : Scope → List Refusal) : Type 0 where
  pub same : new ≡ old
  pub tells : (s : Scope) → Shows names old s → Tells told more (refusals s)
