-- The widths of classes, level by level.
use Rattle.std.proofs.Common.{◌≡◌, ℕ, suc, ◌+◌, ◌<◌, List, [], ◌∷◌, ◌++◌, length, map, replicate, get_or, slice_index_or, Bool, true, false, nat_lt, Option, Some, None, refl, sym, ap, arith, ◌∙◌}
use Rattle.std.proofs.lemmas.Bool.Decides.{nat_tests}
use Rattle.std.proofs.lemmas.Grind.{common_steps}
use Rattle.std.proofs.lemmas.List.{get_or_append_left, get_or_push, get_or-map, get_or-replicate}
use Rattle.std.specs.Global.{Vec}
use Rattle.std.specs.Option.{option_map}
use Rattle.spec_types.specs.Signatures.{Given}
use Rattle.spec_types.specs.Widths.{class_width, plus, total}
use Rattle.py_tree.specs.Arena.{State}
use Rattle.given_types.specs.declared.GivenType.{GivenType}
use Rattle.given_types.specs.Giving.{all_given, given_in}
use Rattle.value_types.specs.Widths.{AreCapped, capped}
use Rattle.value_types.proofs.Capped.{capped_plus}

one_plus : (a : Option ℕ) → plus (Some 1) a ≡ option_map suc a
one_plus None = refl
one_plus (Some a) = ap (λ (n : ℕ). Some n) (omega arith)

pub one_more : (a r : Option ℕ) → r ≡ option_map capped a → option_map capped (plus (Some 1) r) ≡ option_map capped (option_map suc a)
one_more a r e = ap (λ (w : Option ℕ). option_map capped (plus (Some 1) w)) e ∙ capped_plus (Some 1) a ∙ ap (option_map capped) (one_plus a)

module _ (f : ℕ → Option ℕ) where
  pub capped_none : AreCapped [] f
  capped_none = λ k lt. absurd (omega arith)

  pub capped_push : (ws : List (Option ℕ)) (w : Option ℕ) → AreCapped ws f → w ≡ option_map capped (f (length ws)) → AreCapped (ws ++ w ∷ []) f
  capped_push ws w h e = λ k lt. by_test k lt (nat_lt k (length ws)) refl
    where
      by_test : (k : ℕ) → k < length (ws ++ w ∷ []) → (b : Bool) → nat_lt k (length ws) ≡ b → slice_index_or (ws ++ w ∷ []) k None ≡ option_map capped (f k)
      by_test k lt true d =
          let below : k < length ws = grind (arith, nat_tests) in
          get_or_append_left ws (w ∷ []) None k below ∙ h k below
      by_test k lt false d =
          let last : length ws ≡ k = grind (arith, nat_tests, common_steps) in
          get_or_push ws w None k last ∙ e ∙ ap (λ (i : ℕ). option_map capped (f i)) last

pub length_push : (ws : List (Option ℕ)) (w : Option ℕ) (i : ℕ) → length ws ≡ i → length (ws ++ w ∷ []) ≡ i + 1
length_push ws w i e = grind (arith, common_steps)

module _ (s : State) (taken : List (Vec GivenType)) (m : ℕ) where
  pub first_level : AreCapped (replicate (length taken) (Some 1)) (class_width (all_given s taken) m 0)
  first_level = λ k lt. get_or-replicate (length taken) k (Some 1) None (grind (arith, common_steps))

  pub level_more : (ws : List (Option ℕ)) (w : Option ℕ) (n i : ℕ) (d : Vec GivenType) → length ws ≡ i → i < length taken → AreCapped ws (class_width (all_given s taken) m (suc n))
      → w ≡ option_map capped (option_map suc (total m (class_width (all_given s taken) m n) (map (given_in s) (get_or taken i d).items))) → AreCapped (ws ++ w ∷ []) (class_width (all_given s taken) m (suc n))
  level_more ws w n i d size lt h e =
      let here = get_or-map (λ (v : Vec GivenType). map (given_in s) v.items) taken i d [] lt in
      capped_push (class_width (all_given s taken) m (suc n)) ws w h (e ∙ ap (λ (gs : List Given). option_map capped (option_map suc (total m (class_width (all_given s taken) m n) gs))) (sym here) ∙ ap (λ (k : ℕ). option_map capped (class_width (all_given s taken) m (suc n) k)) (sym size))
