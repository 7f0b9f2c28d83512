-- What is told of names and classes.
use Rattle.std.proofs.Common.{◌≡◌, ◌<◌, length, ℕ, Bool, List, [], slice_get, Some, Option}
use Rattle.std.proofs.lemmas.Option.{get_or_from_slice_get}
use Rattle.spec_names.specs.declared.ProfileFault.TheVariants.{Form}
use Rattle.spec_names.specs.declared.Refusal.{Refusal}
use Rattle.spec_names.specs.Names.{is_private}
use Rattle.spec_names.specs.Refusals.{refused_if}
use Rattle.spec_uses.specs.Expressions.{raised_as}
use Rattle.spec_uses.specs.Meanings.{Scope}
use Rattle.py_tree.specs.declared.ids.NameId.{NameId}
use Rattle.py_tree.specs.Names.{text_of}
use Rattle.told_refusals.specs.Telling.{Tells}
use Rattle.name_scopes.specs.Showing.{Held, Shows, meaning_held}
use Rattle.name_scopes.specs.Walking.{Walks}
use Rattle.name_scopes.proofs.Walking.{walks_seen, walks_told}

module _ (names : List (List ℕ)) (h : Held) (n : NameId) (t u : Option Refusal) where
  -- a name that is refused where it is private
  pub private_told : (x : List ℕ) (b : Bool) (line : ℕ) → slice_get names n.index ≡ Some x → b ≡ is_private x → Tells t u (refused_if b line Form) → Walks names h h t u (λ s. refused_if (is_private (text_of names n)) line Form)
  private_told x b line text is told =
      let found : text_of names n ≡ x = get_or_from_slice_get names n.index x [] text in
      rw (found, ← is) (walks_told names h t u (refused_if b line Form) told)

  -- a class name that is raised or caught
  pub raised_told : (line : ℕ) → n.index < length names → Tells t u (raised_as (meaning_held names h n) line) → Walks names h h t u (λ s. raised_as (s.meaning (text_of names n)) line)
  raised_told line lt told = walks_seen names h t u (λ (s : Scope). raised_as (s.meaning (text_of names n)) line) (λ (s : Scope) (p : Shows names h s). rw (← p.meanings n lt) told)
