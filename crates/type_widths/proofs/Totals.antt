-- The widths of parameters together, one after the other.
use Rattle.std.proofs.Common.{◌≡◌, ℕ, ◌+◌, ◌<◌, ◌≤◌, List, [], ◌∷◌, ◌++◌, length, map, take, get_or, true, nat_lt, Option, Some, None, refl, sym, ap, arith, add_assoc, ◌∙◌}
use Rattle.std.proofs.lemmas.Bool.Decides.{nat_tests}
use Rattle.std.proofs.lemmas.List.{map_more, take_all}
use Rattle.std.specs.Option.{is_some, option_map}
use Rattle.spec_types.specs.Types.{ValueType}
use Rattle.spec_types.specs.Signatures.{Given, given_as}
use Rattle.spec_types.specs.Widths.{given_width, greatest_width, is_wider, plus, total, width_in}
use Rattle.py_tree.specs.Arena.{State}
use Rattle.given_types.specs.declared.GivenType.{GivenType}
use Rattle.given_types.specs.declared.GivenType.TheVariants.{Missing}
use Rattle.given_types.specs.Giving.{given_in}
use Rattle.value_types.specs.Widths.{capped}
use Rattle.value_types.proofs.Capped.{capped_plus}

plus_assoc : (a b c : Option ℕ) → plus a (plus b c) ≡ plus (plus a b) c
plus_assoc None b c = refl
plus_assoc (Some a) None c = refl
plus_assoc (Some a) (Some b) None = refl
plus_assoc (Some a) (Some b) (Some c) = ap (λ (n : ℕ). Some n) (sym (add_assoc a b c))

plus_none : (a : Option ℕ) → plus a (Some 0) ≡ a
plus_none None = refl
plus_none (Some a) = ap (λ (n : ℕ). Some n) (omega arith)

none_plus : (a : Option ℕ) → plus (Some 0) a ≡ a
none_plus None = refl
none_plus (Some a) = ap (λ (n : ℕ). Some n) (omega arith)

-- the width of a parameter whose annotation is a type
pub known_width : (o : Option ValueType) (r : Option ℕ) (m : ℕ) (f : ℕ → Option ℕ) → is_some o ≡ true → ((v : ValueType) → o ≡ Some v → r ≡ option_map capped (width_in m f v)) → r ≡ option_map capped (given_width m f (given_as 0 o))
known_width None r m f e h = absurd cc
known_width (Some v) r m f e h = h v refl

module _ (m : ℕ) (f : ℕ → Option ℕ) where
  total_push : (gs : List Given) (g : Given) → total m f (gs ++ g ∷ []) ≡ plus (total m f gs) (given_width m f g)
  total_push [] g = plus_none (given_width m f g) ∙ sym (none_plus (given_width m f g))
  total_push (h ∷ gs) g = ap (plus (given_width m f h)) (total_push gs g) ∙ plus_assoc (given_width m f h) (total m f gs) (given_width m f g)

  module _ (s : State) (gs : List GivenType) (i : ℕ) (t : Option ℕ) where
    pub total_more : (w : Option ℕ) → i < length gs → t ≡ option_map capped (total m f (map (given_in s) (take i gs))) → w ≡ option_map capped (given_width m f (given_in s (get_or gs i Missing))) → option_map capped (plus t w) ≡ option_map capped (total m f (map (given_in s) (take (i + 1) gs)))
    total_more w lt g h =
        let old = map (given_in s) (take i gs) in
        let new = given_in s (get_or gs i Missing) in
        rw (g, h) (capped_plus (total m f old) (given_width m f new)) ∙ sym (ap (λ (xs : List Given). option_map capped (total m f xs)) (map_more (given_in s) gs i Missing lt) ∙ ap (option_map capped) (total_push old new))

    pub total_all : length gs ≤ i → t ≡ option_map capped (total m f (map (given_in s) (take i gs))) → t ≡ option_map capped (total m f (map (given_in s) gs))
    total_all le g = g ∙ ap (λ (xs : List GivenType). option_map capped (total m f (map (given_in s) xs))) (take_all i gs le)

pub plus_both : (a b r s : Option ℕ) → r ≡ option_map capped a → s ≡ option_map capped b → option_map capped (plus r s) ≡ option_map capped (plus a b)
plus_both a b r s g h = rw (g, h) (capped_plus a b)

-- ---- widths that are too great

wider_capped : (n : ℕ) → nat_lt 4096 (capped n) ≡ nat_lt 4096 n
wider_capped n = grind (arith, nat_tests)

pub same_wider : (w r : Option ℕ) → r ≡ option_map capped w → is_wider greatest_width r ≡ is_wider greatest_width w
same_wider None r e = ap (is_wider greatest_width) e
same_wider (Some n) r e = ap (is_wider greatest_width) e ∙ wider_capped n
