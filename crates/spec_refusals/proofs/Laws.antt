-- The refusal that is told comes before all others.
use Rattle.std.proofs.Common.{◌≡◌, ℕ, Bool, true, false, ◌&&◌, ◌==◌, nat_lt, List, [], ◌∷◌, ◌++◌, Option, Some, None, refl, ap, subst, arith, ◌∙◌, if◌then◌else◌}
use Rattle.std.proofs.lemmas.Bool.Decides.{nat_tests}
use Rattle.spec_refusals.specs.Soonest as told

-- the order of refusals, by a line and a number
abbrev before : ℕ → ℕ → ℕ → ℕ → Bool
before a b c d = if nat_lt a c then true else (a == c && nat_lt b d)

never_before_itself : (a b : ℕ) → before a b a b ≡ false
never_before_itself a b = grind (arith, nat_tests)

one_way : (a b c d : ℕ) → before a b c d ≡ true → before c d a b ≡ false
one_way a b c d h = grind (arith, nat_tests)

-- what is not before one that is not before another is not before that one
none_between : (a b c d e f : ℕ) → before a b c d ≡ false → before c d e f ≡ false → before a b e f ≡ false
none_between a b c d e f h g = grind (arith, nat_tests)

sooner_then : (a b c d e f : ℕ) → before a b c d ≡ true → before c d e f ≡ true → before a b e f ≡ true
sooner_then a b c d e f h g = grind (arith, nat_tests)

module _ {R : Type 0} (line number : R → ℕ) where
  abbrev is_sooner : R → R → Bool
  is_sooner = told.is_sooner line number

  abbrev sooner : R → Option R → Option R
  sooner = told.sooner line number

  abbrev soonest : List R → Option R
  soonest = told.soonest line number

  abbrev with_last : Option R → R → Option R
  with_last = told.with_last line number

  abbrev AreLater : R → List R → Type 0
  AreLater = told.AreLater line number

  -- ---- one refusal more

  -- whichever of three is put together first
  three : (q r : R) (o : Option R) → sooner q (with_last o r) ≡ with_last (sooner q o) r
  three q r None = refl
  three q r (Some s) = by_tests (is_sooner r s) (is_sooner s q) refl refl
    where
      by_tests : (a b : Bool) → is_sooner r s ≡ a → is_sooner s q ≡ b → sooner q (if a then Some r else Some s) ≡ with_last (if b then Some s else Some q) r
      by_tests true true e f = rw (sooner_then (line r) (number r) (line s) (number s) (line q) (number q) e f, e) refl
      by_tests true false e f = refl
      by_tests false true e f = rw (e, f) refl
      by_tests false false e f = rw (none_between (line r) (number r) (line s) (number s) (line q) (number q) e f, f) refl

  pub soonest_with_last : (rs : List R) (r : R) → soonest (rs ++ r ∷ []) ≡ with_last (soonest rs) r
  soonest_with_last [] r = refl
  soonest_with_last (q ∷ rs) r = ap (sooner q) (soonest_with_last rs r) ∙ three q r (soonest rs)

  -- ---- the soonest of all

  later_than : (r s : R) (rs : List R) → is_sooner s r ≡ false → AreLater s rs → AreLater r rs
  later_than r s [] h l = tt
  later_than r s (q ∷ rs) h l = (none_between (line q) (number q) (line s) (number s) (line r) (number r) l.0 h, later_than r s rs h l.1)

  pub soonest_is_first : (rs : List R) (r : R) → soonest rs ≡ Some r → AreLater r rs
  soonest_is_first [] r e = absurd cc
  soonest_is_first (q ∷ rs) r e = by_rest (soonest rs) refl e (λ s f. soonest_is_first rs s f)
    where
      by_test : (s : R) (b : Bool) → is_sooner s q ≡ b → AreLater s rs → (if b then Some s else Some q) ≡ Some r → AreLater r (q ∷ rs)
      by_test s true t l f = let i : s ≡ r = cc in subst (λ (v : R). AreLater v (q ∷ rs)) i (one_way (line s) (number s) (line q) (number q) t, l)
      by_test s false t l f = let i : q ≡ r = cc in subst (λ (v : R). AreLater v (q ∷ rs)) i (never_before_itself (line q) (number q), later_than q s rs t l)

      none_left : (rs : List R) → soonest rs ≡ None → AreLater r rs
      none_left [] f = tt
      none_left (p ∷ ps) f = absurd (some_first p (soonest ps) f)
        where
          some_first : (p : R) (o : Option R) → sooner p o ≡ None → ⊥
          some_first p None g = absurd cc
          some_first p (Some s) g = by_bool (is_sooner s p) g
            where
              by_bool : (b : Bool) → (if b then Some s else Some p) ≡ None → ⊥
              by_bool true k = absurd cc
              by_bool false k = absurd cc

      by_rest : (o : Option R) → soonest rs ≡ o → sooner q o ≡ Some r → ((s : R) → soonest rs ≡ Some s → AreLater s rs) → AreLater r (q ∷ rs)
      by_rest None f g h = let i : q ≡ r = cc in (subst (λ (v : R). is_sooner q v ≡ false) i (never_before_itself (line q) (number q)), none_left rs f)
      by_rest (Some s) f g h = by_test s (is_sooner s q) refl (h s f) g
