-- The first refusal comes before all others.
use Rattle.std.proofs.Common.{◌≡◌, ℕ, Bool, true, false, ◌&&◌, ◌==◌, nat_lt, List, [], ◌∷◌, ◌++◌, Option, Some, None, refl, ap, subst, arith, ◌∙◌, if◌then◌else◌}
use Rattle.std.proofs.lemmas.Bool.Decides.{nat_tests}
use Rattle.spec_contracts.specs.declared.Refusal.{Refusal}
use Rattle.spec_contracts.specs.ContractLines.{rank, is_sooner, sooner, first_refusal, AreLater}

-- the order of refusals, by numbers: a line and a rank
abbrev before : ℕ → ℕ → ℕ → ℕ → Bool
before a b c d = if nat_lt a c then true else (a == c && nat_lt b d)

never_before_itself : (a b : ℕ) → before a b a b ≡ false
never_before_itself a b = grind (arith, nat_tests)

one_way : (a b c d : ℕ) → before a b c d ≡ true → before c d a b ≡ false
one_way a b c d h = grind (arith, nat_tests)

-- what is not before one that is not before another is not before that one
none_between : (a b c d e f : ℕ) → before a b c d ≡ false → before c d e f ≡ false → before a b e f ≡ false
none_between a b c d e f h g = grind (arith, nat_tests)

-- ---- one refusal more

-- what is told first, where one refusal more comes behind the others
abbrev pub with_last : Option Refusal → Refusal → Option Refusal
with_last None r = Some r
with_last (Some s) r = if is_sooner r s then Some r else Some s

sooner_then : (a b c d e f : ℕ) → before a b c d ≡ true → before c d e f ≡ true → before a b e f ≡ true
sooner_then a b c d e f h g = grind (arith, nat_tests)

-- whichever of three is put together first
three : (q r : Refusal) (o : Option Refusal) → sooner q (with_last o r) ≡ with_last (sooner q o) r
three q r None = refl
three q r (Some s) = by_tests (is_sooner r s) (is_sooner s q) refl refl
  where
    by_tests : (a b : Bool) → is_sooner r s ≡ a → is_sooner s q ≡ b → sooner q (if a then Some r else Some s) ≡ with_last (if b then Some s else Some q) r
    by_tests true true e f = rw (sooner_then r.line (rank r.fault) s.line (rank s.fault) q.line (rank q.fault) e f, e) refl
    by_tests true false e f = refl
    by_tests false true e f = rw (e, f) refl
    by_tests false false e f = rw (none_between r.line (rank r.fault) s.line (rank s.fault) q.line (rank q.fault) e f, f) refl

pub first_with_last : (rs : List Refusal) (r : Refusal) → first_refusal (rs ++ r ∷ []) ≡ with_last (first_refusal rs) r
first_with_last [] r = refl
first_with_last (q ∷ rs) r = ap (sooner q) (first_with_last rs r) ∙ three q r (first_refusal rs)

-- ---- the soonest of all

later_than : (r s : Refusal) (rs : List Refusal) → is_sooner s r ≡ false → AreLater s rs → AreLater r rs
later_than r s [] h l = tt
later_than r s (q ∷ rs) h l = (none_between q.line (rank q.fault) s.line (rank s.fault) r.line (rank r.fault) l.0 h, later_than r s rs h l.1)

pub first_is_soonest : (rs : List Refusal) (r : Refusal) → first_refusal rs ≡ Some r → AreLater r rs
first_is_soonest [] r e = absurd cc
first_is_soonest (q ∷ rs) r e = by_rest (first_refusal rs) refl e (λ s f. first_is_soonest rs s f)
  where
    by_test : (s : Refusal) (b : Bool) → is_sooner s q ≡ b → AreLater s rs → (if b then Some s else Some q) ≡ Some r → AreLater r (q ∷ rs)
    by_test s true t l f = let i : s ≡ r = cc in subst (λ (v : Refusal). AreLater v (q ∷ rs)) i (one_way s.line (rank s.fault) q.line (rank q.fault) t, l)
    by_test s false t l f = let i : q ≡ r = cc in subst (λ (v : Refusal). AreLater v (q ∷ rs)) i (never_before_itself q.line (rank q.fault), later_than q s rs t l)

    none_left : (rs : List Refusal) → first_refusal rs ≡ None → AreLater r rs
    none_left [] f = tt
    none_left (p ∷ ps) f = absurd (some_first p (first_refusal ps) f)
      where
        some_first : (p : Refusal) (o : Option Refusal) → sooner p o ≡ None → ⊥
        some_first p None g = absurd cc
        some_first p (Some s) g = by_bool (is_sooner s p) g
          where
            by_bool : (b : Bool) → (if b then Some s else Some p) ≡ None → ⊥
            by_bool true k = absurd cc
            by_bool false k = absurd cc

    by_rest : (o : Option Refusal) → first_refusal rs ≡ o → sooner q o ≡ Some r → ((s : Refusal) → first_refusal rs ≡ Some s → AreLater s rs) → AreLater r (q ∷ rs)
    by_rest None f g h = let i : q ≡ r = cc in (subst (λ (v : Refusal). is_sooner q v ≡ false) i (never_before_itself q.line (rank q.fault)), none_left rs f)
    by_rest (Some s) f g h = by_test s (is_sooner s q) refl (h s f) g
