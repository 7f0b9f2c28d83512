-- What is told in a scope, one after the other.
use Rattle.std.proofs.Common.{◌≡◌, ℕ, ◌+◌, ◌<◌, ◌≤◌, List, [], ◌∷◌, ◌++◌, length, drop, append-nil, get_or, Option, refl, sym, ap, ◌∙◌}
use Rattle.std.proofs.lemmas.List.{append_assoc}
use Rattle.spec_names.specs.declared.Refusal.{Refusal}
use Rattle.spec_uses.specs.Meanings.{Scope}
use Rattle.told_refusals.specs.Telling.{Tells}
use Rattle.told_refusals.proofs.Telling.{drop_all, drop_from, tells_none, tells_then}
use Rattle.name_scopes.specs.Showing.{Held, IsSized, Shows}
use Rattle.name_scopes.specs.Walking.{Walks}

module _ (names : List (List ℕ)) where
  pub walks_none : (h : Held) (t : Option Refusal) → Walks names h h t t (λ s. [])
  walks_none h t = record { same = refl; tells = λ s p. tells_none t }

  -- what is told without a look at the scope
  pub walks_told : (h : Held) (t u : Option Refusal) (rs : List Refusal) → Tells t u rs → Walks names h h t u (λ s. rs)
  walks_told h t u rs f = record { same = refl; tells = λ s p. f }

  -- what is told where the scope is looked at
  pub walks_seen : (h : Held) (t u : Option Refusal) (f : Scope → List Refusal) → ((s : Scope) → Shows names h s → Tells t u (f s)) → Walks names h h t u f
  walks_seen h t u f g = record { same = refl; tells = g }

  pub walks_then : (a b c : Held) (t u v : Option Refusal) (f g : Scope → List Refusal) → Walks names a b t u f → Walks names b c u v g → Walks names a c t v (λ s. f s ++ g s)
  walks_then a b c t u v f g w x = record {
    same = x.same ∙ w.same;
    tells = λ s p. tells_then t u v (f s) (g s) (w.tells s p) (x.tells s (rw w.same p));
  }

  -- what comes to the same refusals in each scope
  pub walks_as : (a b : Held) (t u : Option Refusal) (f g : Scope → List Refusal) → ((s : Scope) → Shows names a s → f s ≡ g s) → Walks names a b t u f → Walks names a b t u g
  walks_as a b t u f g e w = record { same = w.same; tells = λ s p. rw (← e s p) (w.tells s p) }

  pub sized_on : (a b : Held) → b ≡ a → IsSized names a → IsSized names b
  sized_on a b e z = rw e z

  -- ---- of these things, those before the place i are told of
  module _ {X : Type 0} (refusals_in : List X → Scope → List Refusal) (refusals_by : X → Scope → List Refusal) (xs : List X) (old : Held) (told : Option Refusal) where
    pub record WalkedTo (now : Held) (t : Option Refusal) (i : ℕ) : Type 0 where
      pub so_far : Scope → List Refusal
      pub walks : Walks names old now told t so_far
      pub rest : (s : Scope) → refusals_in xs s ≡ so_far s ++ refusals_in (drop i xs) s

    pub walked_none : WalkedTo old told 0
    walked_none = record { so_far = λ s. []; walks = walks_none old told; rest = λ s. refl }

    module _ (now : Held) (t : Option Refusal) (i : ℕ) (h : WalkedTo now t i) where
      pub walked_more : ((x : X) (ys : List X) (s : Scope) → refusals_in (x ∷ ys) s ≡ refusals_by x s ++ refusals_in ys s) → (new : Held) (u : Option Refusal) (d : X) → i < length xs
          → Walks names now new t u (refusals_by (get_or xs i d)) → WalkedTo new u (i + 1)
      walked_more step new u d lt w = record {
        so_far = λ s. h.so_far s ++ refusals_by (get_or xs i d) s;
        walks = walks_then old now new told t u h.so_far (refusals_by (get_or xs i d)) h.walks w;
        rest = λ s. h.rest s ∙ ap (λ (v : List X). h.so_far s ++ refusals_in v s) (drop_from xs i d lt) ∙ ap (λ (v : List Refusal). h.so_far s ++ v) (step (get_or xs i d) (drop (i + 1) xs) s)
            ∙ sym (append_assoc (h.so_far s) (refusals_by (get_or xs i d) s) (refusals_in (drop (i + 1) xs) s));
      }

      pub walked_all : ((s : Scope) → refusals_in [] s ≡ []) → length xs ≤ i → Walks names old now told t (refusals_in xs)
      walked_all none le = walks_as old now told t h.so_far (refusals_in xs) (λ s p. sym (h.rest s ∙ ap (λ (v : List X). h.so_far s ++ refusals_in v s) (drop_all xs i le) ∙ ap (λ (v : List Refusal). h.so_far s ++ v) (none s) ∙ append-nil (h.so_far s))) h.walks
