-- The number of literals of clauses that are not on the trail falls with each literal that is put there.
use Rattle.std.proofs.Common.{◌≡◌, ℕ, ◌+◌, ◌<◌, ◌≤◌, Bool, true, false, cond, List, [], ◌∷◌, ◌++◌, refl, sym, ap, subst, ◌∙◌, arith, inl, inr, Contains}
use Rattle.std.proofs.lemmas.Bool.{both_ways}
use Rattle.std.proofs.lemmas.List.Elements.{Contains-append_left, Contains-push}
use Rattle.refutation_check.specs.Truth.{has}
use Rattle.refutation_check.specs.declared.lit.SatLit.{SatLit}
use Rattle.refutation_check.specs.declared.propagation.Due.TheVariants as due
use Rattle.refutation_check.specs.Dues.{due_in}
use Rattle.refutation_check.proofs.Lists.{contains_cases, contains_none}
use Rattle.refutation_check.proofs.Literals.{has_told, has_from}
use Rattle.refutation_check.proofs.Looks.{forced_told, forced_in}

-- 1 for a literal that is not on the trail
one_open : Bool → ℕ
one_open b = cond b 0 1

-- how many literals of a clause are not on the trail
pub open_lits : List SatLit → List SatLit → ℕ
open_lits trail [] = 0
open_lits trail (l ∷ c) = one_open (has trail l) + open_lits trail c

-- how many literals of clauses are not on the trail
pub open_count : List SatLit → List (List SatLit) → ℕ
open_count trail [] = 0
open_count trail (c ∷ clauses) = open_lits trail c + open_count trail clauses

module _ (trail more : List SatLit) (grown : (k : SatLit) → has trail k ≡ true → has more k ≡ true) where
  -- at one literal
  one_le : (k : SatLit) → one_open (has more k) ≤ one_open (has trail k)
  unfolding one_open
  one_le k = by (has trail k) (has more k) refl refl
    where
      by : (a b : Bool) → has trail k ≡ a → has more k ≡ b → one_open b ≤ one_open a
      by true true s t = omega arith
      by true false s t = absurd (both_ways (has more k) t (grown k s))
      by false true s t = omega arith
      by false false s t = omega arith

  -- a longer trail leaves no more of a clause
  lits_le : (c : List SatLit) → open_lits more c ≤ open_lits trail c
  unfolding open_lits
  lits_le [] = omega arith
  lits_le (l ∷ c) = omega (arith, one_le l, lits_le c)

  -- and less where a literal of it was put there
  lits_lt : (c : List SatLit) (l : SatLit) → Contains c l → has trail l ≡ false → has more l ≡ true → open_lits more c < open_lits trail c
  unfolding open_lits one_open
  lits_lt [] l t f g = absurd (contains_none l t)
  lits_lt (k ∷ c) l t f g = elim (contains_cases k c l t) [
    | inl e ↦ (let a : one_open (has trail k) ≡ 1 = ap (λ (x : SatLit). one_open (has trail x)) e ∙ ap (λ (b : Bool). one_open b) f in let b : one_open (has more k) ≡ 0 = ap (λ (x : SatLit). one_open (has more x)) e ∙ ap (λ (b : Bool). one_open b) g in omega (arith, a, b, lits_le c))
    | inr r ↦ (let s : open_lits more c < open_lits trail c = lits_lt c l r f g in omega (arith, s, one_le k))
  ]

  -- a longer trail leaves no more of clauses
  count_le : (clauses : List (List SatLit)) → open_count more clauses ≤ open_count trail clauses
  unfolding open_count
  count_le [] = omega arith
  count_le (c ∷ clauses) = omega (arith, lits_le c, count_le clauses)

  -- and less where a literal of one was put there
  count_lt : (clauses : List (List SatLit)) (c : List SatLit) (l : SatLit) → Contains clauses c → Contains c l → has trail l ≡ false → has more l ≡ true → open_count more clauses < open_count trail clauses
  unfolding open_count
  count_lt [] c l s t f g = absurd (contains_none c s)
  count_lt (d ∷ clauses) c l s t f g = elim (contains_cases d clauses c s) [
    | inl e ↦ (let P : List SatLit → Type 0 = λ x. Contains x l in let h = lits_lt d l (subst P (sym e) t) f g in omega (arith, h, count_le clauses))
    | inr r ↦ (let h = count_lt clauses c l r t f g in omega (arith, h, lits_le d))
  ]

-- a literal that is forced and put on the trail leaves less
pub count_falls : (trail : List SatLit) (clauses : List (List SatLit)) (l : SatLit) → due_in trail clauses ≡ due.Forced l → open_count (trail ++ l ∷ []) clauses < open_count trail clauses
count_falls trail clauses l e =
    let d = forced_in trail clauses l e in
    let u = forced_told trail d.clause l d.gives in
    count_lt trail (trail ++ l ∷ []) (λ k h. has_from (trail ++ l ∷ []) k (Contains-append_left trail (l ∷ []) k (has_told trail k h))) clauses d.clause l d.there u.there u.new (has_from (trail ++ l ∷ []) l (Contains-push trail l))
