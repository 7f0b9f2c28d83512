-- Tests of literals, and what they mean.
use Rattle.std.proofs.Common.{◌≡◌, ◌≢◌, ◌==◌, Bool, true, false, not, List, refl, sym, ap, subst, ◌∙◌, ◌⊎◌, inl, inr, Contains}
use Rattle.std.specs.Bool.{beq}
use Rattle.std.specs.Cmp.{booleans_Decides}
use Rattle.std.proofs.lemmas.Bool.{eqb-true, eq-eqb, and_parts, and_from, both_ways, cases_Bool}
use Rattle.refutation_check.specs.declared.lit.SatLit.{SatLit}
use Rattle.refutation_check.specs.Truth.{negated, same_lit, has}
use Rattle.refutation_check.proofs.Lists.{any_told, any_from}

-- literals that the test calls equal
pub lit_told : (a b : SatLit) → same_lit a b ≡ true → a ≡ b
lit_told a b h =
    let p = and_parts (a.var == b.var) (beq a.positive b.positive) h in
    let v = eqb-true a.var b.var p.0 in
    let s = (booleans_Decides a.positive b.positive).0 p.1 in
    λ j. record { var = v j; positive = s j }

-- a literal is equal to itself
pub lit_itself : (a : SatLit) → same_lit a a ≡ true
lit_itself a = and_from (a.var == a.var) (beq a.positive a.positive) (eq-eqb a.var a.var refl) ((booleans_Decides a.positive a.positive).1 refl)

-- the test of equal literals
pub lit_from : (a b : SatLit) → a ≡ b → same_lit a b ≡ true
lit_from a b e = sym (ap (λ (x : SatLit). same_lit a x) e) ∙ lit_itself a

-- two literals are equal or not
pub lit_cases : (a b : SatLit) → (a ≡ b) ⊎ (a ≢ b)
lit_cases a b = elim (cases_Bool (same_lit a b)) [ inl t ↦ inl (lit_told a b t) | inr f ↦ inr (λ e. both_ways (same_lit a b) f (lit_from a b e)) ]

-- a negation of a negation
pub negated_twice : (l : SatLit) → negated (negated l) ≡ l
negated_twice l = by l.positive refl
  where
    by : (b : Bool) → l.positive ≡ b → negated (negated l) ≡ l
    by true e = let n : not (not l.positive) ≡ l.positive = rw e refl in λ j. record { var = l.var; positive = n j }
    by false e = let n : not (not l.positive) ≡ l.positive = rw e refl in λ j. record { var = l.var; positive = n j }

-- no literal is its negation
pub negated_apart : (l : SatLit) → l ≡ negated l → ⊥
negated_apart l e = by l.positive (ap (λ (x : SatLit). x.positive) e)
  where
    by : (b : Bool) → b ≡ not b → ⊥
    by true h = cc
    by false h = cc

-- a list has what it contains
pub has_told : (lits : List SatLit) (l : SatLit) → has lits l ≡ true → Contains lits l
has_told lits l h =
    let a = any_told (λ (k : SatLit). same_lit k l) lits h in
    let e = lit_told a.0 l a.2 in
    let P : SatLit → Type 0 = λ x. Contains lits x in
    subst P e a.1

-- and the test finds it
pub has_from : (lits : List SatLit) (l : SatLit) → Contains lits l → has lits l ≡ true
has_from lits l c = any_from (λ (k : SatLit). same_lit k l) lits l c (lit_itself l)

-- what it does not find is not there
pub has_not : (lits : List SatLit) (l : SatLit) → has lits l ≡ false → Contains lits l → ⊥
has_not lits l f c = both_ways (has lits l) f (has_from lits l c)
