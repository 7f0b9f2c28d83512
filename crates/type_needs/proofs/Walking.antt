-- What is found and told of several things, one after the other.
use Rattle.std.proofs.Common.{◌≡◌, ℕ, ◌+◌, ◌<◌, ◌≤◌, List, length, map, take, get_or, Option, sym, ap, subst, ◌∙◌}
use Rattle.std.specs.List.{All, flat_map}
use Rattle.std.proofs.lemmas.List.{take_all}
use Rattle.std.proofs.lemmas.List.Folds.{flat_map-map}
use Rattle.spec_names.specs.declared.Refusal.{Refusal}
use Rattle.told_refusals.specs.Telling.{Tells}
use Rattle.told_refusals.proofs.Telling.{ToldTo, told_more}

-- the last of them
pub found_all : {X Y : Type 0} (f : Y → List ℕ) (g : X → Y) (xs : List X) (i : ℕ) → length xs ≤ i → flat_map (λ x. f (g x)) (take i xs) ≡ flat_map f (map g xs)
found_all {X = X} f g xs i le = ap (λ (ys : List X). flat_map (λ x. f (g x)) ys) (take_all i xs le) ∙ sym (flat_map-map f g xs)

-- one more, of which something is known
pub told_turn : {X : Type 0} (P : X → Type 0) (f : X → List Refusal) (xs : List X) (old now : Option Refusal) (i : ℕ) → All P xs → ToldTo f xs old now i → (x d : X) → i < length xs → x ≡ get_or xs i d → (new : Option Refusal) → (P x → Tells now new (f x)) → ToldTo f xs old new (i + 1)
told_turn {X = X} P f xs old now i h t x d lt e new told = told_more f xs old now i t new d lt (subst (λ (y : X). Tells now new (f y)) e (told (subst P (sym e) (h i d lt))))
