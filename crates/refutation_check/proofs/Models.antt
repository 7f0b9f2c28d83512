-- A model of clauses and assumptions makes every forced literal true, so what is refuted has none.
use Rattle.std.proofs.Common.{◌≡◌, ◌≢◌, ℕ, zero, suc, ◌-◌, ◌<◌, Bool, true, false, not, cond, List, [], ◌∷◌, ◌++◌, length, get_or, take, map, refl, sym, ap, subst, ◌∙◌, arith, ◌⊎◌, inl, inr, Contains, Some, slice_get, Result, Ok, Err, IfOk, IsTrue, ◌↔◌}
use Rattle.std.proofs.lemmas.Bool.{both_ways, not-true, not_from_false, cases_Bool}
use Rattle.std.proofs.lemmas.List.{get_or-take, length-take}
use Rattle.std.proofs.lemmas.List.Elements.{Contains-append_cases}
use Rattle.std.proofs.lemmas.Option.{slice_get_within, slice_get-get_or, get_or_from_slice_get}
use Rattle.refutation_check.specs.declared.lit.SatLit.{SatLit}
use Rattle.refutation_check.specs.Truth.{negated, literal_value, clause_value, IsModel, HaveNoModel}
use Rattle.refutation_check.specs.Propagation.{IsForced, is_given, is_unit, IsConflict, clause_fails, literal_fails}
use Rattle.refutation_check.specs.Refutations.{Follows, EachFollows, IsAccepted}
use Rattle.refutation_check.proofs.Lists.{contains_head, contains_tail, contains_cases, contains_none, contains_take, any_told, any_from}
use Rattle.refutation_check.proofs.Literals.{lit_cases}

-- the value of a negation
pub value_negated : (v : ℕ → Bool) (l : SatLit) → literal_value v (negated l) ≡ not (literal_value v l)
value_negated v l = by l.positive (v l.var)
  where
    by : (p b : Bool) → cond (not p) b (not b) ≡ not (cond p b (not b))
    by true true = refl
    by true false = refl
    by false true = refl
    by false false = refl

-- what a mapped list contains
pub contains_map : (lits : List SatLit) (l : SatLit) → Contains (map negated lits) l → (k : SatLit) × Contains lits k × (negated k ≡ l)
contains_map [] l c = absurd (contains_none l c)
contains_map (x ∷ lits) l c = elim (contains_cases (negated x) (map negated lits) l c) [
  | inl e ↦ (x, contains_head x lits, e)
  | inr r ↦ (let m = contains_map lits l r in (m.0, contains_tail x lits m.0 m.1, m.2))
]

-- and the image of an element
pub map_contains : (lits : List SatLit) (k : SatLit) → Contains lits k → Contains (map negated lits) (negated k)
map_contains [] k c = absurd (contains_none k c)
map_contains (x ∷ lits) k c = elim (contains_cases x lits k c) [
  | inl e ↦ (let P : SatLit → Type 0 = λ z. Contains (map negated (x ∷ lits)) (negated z) in subst P e (contains_head (negated x) (map negated lits)))
  | inr r ↦ contains_tail (negated x) (map negated lits) (negated k) (map_contains lits k r)
]

module _ (v : ℕ → Bool) where
  -- a negation that is true
  negation_told : (l : SatLit) → literal_value v (negated l) ≡ true → literal_value v l ≡ false
  negation_told l h = not-true (literal_value v l) (sym (value_negated v l) ∙ h)

  module _ (clauses : List (List SatLit)) (given : List SatLit) (m : IsModel v clauses given) where
    -- a forced literal is true
    pub forced_true : (l : SatLit) → IsForced clauses given l → literal_value v l ≡ true
    forced_true _ (is_given l t) = m.assumptions_hold l t
    forced_true _ (is_unit l c t u others) =
        let a = any_told (literal_value v) c (m.clauses_hold c t) in
        by a.0 a.1 a.2 (λ ne. forced_true (negated a.0) (others a.0 a.1 ne))
      where
        by : (k : SatLit) → Contains c k → literal_value v k ≡ true → (k ≢ l → literal_value v (negated k) ≡ true) → literal_value v l ≡ true
        by k s h n = elim (lit_cases k l) [ inl e ↦ sym (ap (λ (x : SatLit). literal_value v x) e) ∙ h | inr ne ↦ absurd (both_ways (literal_value v k) (negation_told k (n ne)) h) ]

    -- so there is no conflict
    pub conflict_unmet : IsConflict clauses given → ⊥
    conflict_unmet (clause_fails c t fails) =
        let a = any_told (literal_value v) c (m.clauses_hold c t) in
        both_ways (literal_value v a.0) (negation_told a.0 (forced_true (negated a.0) (fails a.0 a.1))) a.2
    conflict_unmet (literal_fails l f g) = both_ways (literal_value v l) (negation_told l (forced_true (negated l) g)) (forced_true l f)

  -- a clause that is not true has only false literals
  false_literal : (c : List SatLit) → clause_value v c ≡ false → (k : SatLit) → Contains c k → literal_value v (negated k) ≡ true
  false_literal c f k t = by (cases_Bool (literal_value v k))
    where
      by : (literal_value v k ≡ true) ⊎ (literal_value v k ≡ false) → literal_value v (negated k) ≡ true
      by (inl h) = absurd (both_ways (clause_value v c) f (any_from (literal_value v) c k t h))
      by (inr h) = value_negated v k ∙ not_from_false (literal_value v k) h

  -- a clause that follows from true ones is true
  follows_true : (clauses : List (List SatLit)) (assumptions c : List SatLit) → IsModel v clauses assumptions → Follows clauses assumptions c → clause_value v c ≡ true
  follows_true clauses assumptions c m h = by (cases_Bool (clause_value v c))
    where
      wrong : clause_value v c ≡ false → IsModel v clauses (assumptions ++ map negated c)
      wrong f = record {
        clauses_hold = m.clauses_hold;
        assumptions_hold = λ l t. elim (Contains-append_cases assumptions (map negated c) l t) [
          | inl o ↦ m.assumptions_hold l o
          | inr s ↦ (let k = contains_map c l s in sym (ap (λ (x : SatLit). literal_value v x) k.2) ∙ false_literal c f k.0 k.1)
        ];
      }

      by : (clause_value v c ≡ true) ⊎ (clause_value v c ≡ false) → clause_value v c ≡ true
      by (inl t) = t
      by (inr f) = absurd (conflict_unmet clauses (assumptions ++ map negated c) (wrong f) h)

  module _ (clauses : List (List SatLit)) (assumptions : List SatLit) (refutation : List (List SatLit)) (m : IsModel v clauses assumptions) (a : IsAccepted clauses assumptions refutation) where
    -- the first n clauses of a refutation are true
    front_true : (n : ℕ) → (c : List SatLit) → Contains (take n refutation) c → clause_value v c ≡ true
    front_true zero c t = absurd (contains_none c t)
    front_true (suc n) c (k, lt, e) =
        let within : k < length refutation = omega (arith, length-take (suc n) refutation) in
        let below : k < suc n = omega (arith, length-take (suc n) refutation) in
        let at : get_or refutation k c ≡ c = sym (get_or-take (suc n) refutation k c below) ∙ e in
        let here : slice_get refutation k ≡ Some c = slice_get-get_or refutation k c within ∙ ap (λ (x : List SatLit). Some x) at in
        follows_true (clauses ++ take k refutation) assumptions c (record { clauses_hold = λ d s. elim (Contains-append_cases clauses (take k refutation) d s) [ inl o ↦ m.clauses_hold d o | inr r ↦ front_true n d (contains_take k n refutation d (omega arith) r) ]; assumptions_hold = m.assumptions_hold }) (a.each_follows k c here)

    -- but the last one is not
    pub accepted_unmet : ⊥
    accepted_unmet =
        let within : length refutation - 1 < length refutation = slice_get_within refutation (length refutation - 1) [] a.ends_empty in
        let last : Contains (take (length refutation) refutation) [] = (length refutation - 1, omega (arith, length-take (length refutation) refutation), get_or-take (length refutation) refutation (length refutation - 1) [] within ∙ get_or_from_slice_get refutation (length refutation - 1) [] [] a.ends_empty) in
        let t : clause_value v [] ≡ true = front_true (length refutation) [] last in
        cc

-- what is accepted, where the last clause is the empty one
pub accepted_from : {E : Type 0} (r : Result Bool E) (clauses : List (List SatLit)) (assumptions : List SatLit) (refutation : List (List SatLit)) → slice_get refutation (length refutation - 1) ≡ Some [] → IfOk r (λ yes. IsTrue yes ↔ EachFollows clauses assumptions refutation) → IfOk r (λ yes. IsTrue yes ↔ IsAccepted clauses assumptions refutation)
accepted_from (Ok answer) clauses assumptions refutation last h = (λ t. record { ends_empty = last; each_follows = h.0 t }, λ a. h.1 a.each_follows)
accepted_from (Err e) clauses assumptions refutation last h = tt

-- and has no model
pub refuted_from : {E : Type 0} (r : Result Bool E) (clauses : List (List SatLit)) (assumptions : List SatLit) (refutation : List (List SatLit)) → IfOk r (λ yes. IsTrue yes ↔ IsAccepted clauses assumptions refutation) → IfOk r (λ yes. IsTrue yes → HaveNoModel clauses assumptions)
refuted_from (Ok answer) clauses assumptions refutation h = λ t v m. accepted_unmet v clauses assumptions refutation m (h.0 t)
refuted_from (Err e) clauses assumptions refutation h = tt
