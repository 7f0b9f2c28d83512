-- What is told behind more refusals.
use Rattle.std.proofs.Common.{◌≡◌, ℕ, zero, suc, ◌+◌, ◌<◌, ◌≤◌, List, [], ◌∷◌, ◌++◌, length, map, drop, drop-cons, append-nil, get_or, Option, refl, sym, ap, arith, ◌∙◌}
use Rattle.std.specs.List.{flat_map}
use Rattle.std.proofs.lemmas.Grind.{common_steps}
use Rattle.std.proofs.lemmas.List.{append_assoc}
use Rattle.spec_refusals.specs.Soonest.{with_last}
use Rattle.spec_refusals.proofs.Laws.{soonest_with_last}
use Rattle.spec_names.specs.declared.Refusal.{Refusal}
use Rattle.spec_names.specs.Refusals.{first_refusal, line_in, number_in}
use Rattle.told_refusals.specs.Telling.{Tells}

pub tells_none : (t : Option Refusal) → Tells t t []
tells_none t = λ rs e. e ∙ ap first_refusal (sym (append-nil rs))

pub tells_one : (t : Option Refusal) (r : Refusal) → Tells t (with_last line_in number_in t r) (r ∷ [])
tells_one t r = λ rs e. ap (λ (o : Option Refusal). with_last line_in number_in o r) e ∙ sym (soonest_with_last line_in number_in rs r)

pub tells_then : (a b c : Option Refusal) (xs ys : List Refusal) → Tells a b xs → Tells b c ys → Tells a c (xs ++ ys)
tells_then a b c xs ys f g = λ rs e. g (rs ++ xs) (f rs e) ∙ ap first_refusal (append_assoc rs xs ys)

-- ---- what is told of things, one after the other

pub drop_from : {X : Type 0} (xs : List X) (i : ℕ) (d : X) → i < length xs → drop i xs ≡ get_or xs i d ∷ drop (i + 1) xs
drop_from xs i d lt = grind (arith, common_steps, drop-cons)

pub drop_all : {X : Type 0} (xs : List X) (i : ℕ) → length xs ≤ i → drop i xs ≡ []
drop_all [] zero le = refl
drop_all [] (suc i) le = refl
drop_all (x ∷ xs) zero le = absurd (omega arith)
drop_all (x ∷ xs) (suc i) le = drop_all xs i (omega arith)

-- Of these things, those before the place i are told of.
module _ {X : Type 0} (refusals_by : X → List Refusal) (xs : List X) (old : Option Refusal) where
  pub record ToldTo (now : Option Refusal) (i : ℕ) : Type 0 where
    pub so_far : List Refusal
    pub told : Tells old now so_far
    pub rest : flat_map refusals_by xs ≡ so_far ++ flat_map refusals_by (drop i xs)

  pub told_none : ToldTo old 0
  told_none = record { so_far = []; told = tells_none old; rest = refl }

  module _ (now : Option Refusal) (i : ℕ) (h : ToldTo now i) where
    pub told_more : (new : Option Refusal) (d : X) → i < length xs → Tells now new (refusals_by (get_or xs i d)) → ToldTo new (i + 1)
    told_more new d lt told = record {
      so_far = h.so_far ++ refusals_by (get_or xs i d);
      told = tells_then old now new h.so_far (refusals_by (get_or xs i d)) h.told told;
      rest = h.rest ∙ ap (λ (v : List X). h.so_far ++ flat_map refusals_by v) (drop_from xs i d lt) ∙ sym (append_assoc h.so_far (refusals_by (get_or xs i d)) (flat_map refusals_by (drop (i + 1) xs)));
    }

    pub told_all : length xs ≤ i → Tells old now (flat_map refusals_by xs)
    told_all le = rw (h.rest ∙ ap (λ (v : List X). h.so_far ++ flat_map refusals_by v) (drop_all xs i le) ∙ append-nil h.so_far) h.told

pub flat_map_map : {X Y : Type 0} (f : Y → List Refusal) (g : X → Y) (xs : List X) → flat_map (λ x. f (g x)) xs ≡ flat_map f (map g xs)
flat_map_map f g [] = refl
flat_map_map f g (x ∷ xs) = ap (λ (v : List Refusal). f (g x) ++ v) (flat_map_map f g xs)
