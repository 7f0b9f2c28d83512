-- What is told in a comprehension, whose variable is local within it.
use Rattle.std.proofs.Common.{◌≡◌, ◌∙◌, ℕ, ◌<◌, Bool, true, false, List, [], ◌∷◌, get_or, length, Option, ap}
use Rattle.spec_names.specs.declared.Refusal.{Refusal}
use Rattle.spec_uses.specs.Meanings.{Scope, with_locals}
use Rattle.py_tree.specs.declared.ids.NameId.{NameId}
use Rattle.py_tree.specs.Names.{AreDistinct, text_of}
use Rattle.name_scopes.specs.Showing.{Held, IsSized, with_variable}
use Rattle.name_scopes.specs.Walking.{Walks}
use Rattle.name_scopes.proofs.Variables.{shows_variable, variable_back}

pub walks_inner : (names : List (List ℕ)) (a b c : Held) (n : NameId) (was : Bool) (t u : Option Refusal) (f : Scope → List Refusal) → AreDistinct names → n.index < length names → IsSized names a → was ≡ get_or a.inner n.index false
    → c ≡ with_variable b n was → Walks names (with_variable a n true) b t u f → Walks names a c t u (λ s. f (with_locals (text_of names n ∷ []) s))
walks_inner names a b c n was t u f distinct lt sized is_was is_back w = record {
  same = is_back ∙ ap (λ (h : Held). with_variable h n was) w.same ∙ ap (λ (v : Bool). with_variable (with_variable a n true) n v) is_was ∙ variable_back a n;
  tells = λ s p. w.tells (with_locals (text_of names n ∷ []) s) (shows_variable names a s n distinct lt sized p);
}
