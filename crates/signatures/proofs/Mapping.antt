-- Things that are made of others, one after the other.
use Rattle.std.proofs.Common.{◌≡◌, ℕ, ◌+◌, ◌<◌, ◌≤◌, List, [], ◌∷◌, ◌++◌, length, map, take, get_or, refl, sym, ap, arith, ◌∙◌}
use Rattle.std.specs.List.{All}
use Rattle.std.proofs.lemmas.List.{map_more, map_push, take_all}
use Rattle.std.proofs.lemmas.List.Elements.{All-push}

-- Of these things, those before the place i are made.
module _ {W X Y : Type 0} (f : W → Y) (g : X → Y) (P : X → Type 0) (ws : List W) where
  pub record MadeTo (made : List X) (i : ℕ) : Type 0 where
    pub there : All P made
    pub same : map g made ≡ map f (take i ws)

  pub made_none : (made : List X) → made ≡ [] → MadeTo made 0
  made_none made e = rw e (record { there = λ k d lt. absurd (omega arith); same = refl })

  module _ (made : List X) (i : ℕ) (h : MadeTo made i) where
    pub made_more : (more : List X) (x : X) (d : W) → i < length ws → P x → g x ≡ f (get_or ws i d) → more ≡ made ++ x ∷ [] → MadeTo more (i + 1)
    made_more more x d lt p is e = rw e (record {
      there = All-push P made x h.there p;
      same = map_push g made x ∙ ap (λ (v : List Y). v ++ g x ∷ []) h.same ∙ ap (λ (y : Y). map f (take i ws) ++ y ∷ []) is ∙ sym (map_more f ws i d lt);
    })

    pub made_all : length ws ≤ i → map g made ≡ map f ws
    made_all le = h.same ∙ ap (map f) (take_all i ws le)
