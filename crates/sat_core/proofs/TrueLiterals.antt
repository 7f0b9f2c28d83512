-- The variables of a model, and the values that they give.
use Rattle.std.proofs.Common.{◌≡◌, ℕ, ◌<◌, ◌≤◌, ◌↔◌, Bool, true, false, IsTrue, List, [], ◌∷◌, ◌++◌, length, get_or, refl, sym, ap, subst, ◌∙◌, arith, inl, inr, Contains, Result, Ok, Err, MatchResult}
use Rattle.std.specs.Ordering.{nat_cmp}
use Rattle.std.specs.Result.{is_ok}
use Rattle.std.specs.List.Sorted.{IsSorted, IsBinarySearchResult}
use Rattle.std.proofs.lemmas.Bool.{cases_lt, false_from_ne_true}
use Rattle.std.proofs.lemmas.List.{get_or_default}
use Rattle.std.proofs.lemmas.List.Elements.{Contains-push, Contains-push_cases, Contains-append_left}
use Rattle.std.proofs.lemmas.List.Sorted.{searched, IsNonDecreasingBy-from_sort}
use Rattle.refutation_check.specs.declared.lit.SatLit.{SatLit}
use Rattle.refutation_check.proofs.Lists.{contains_head, contains_tail, contains_cases, contains_none}
use Rattle.refutation_check.proofs.Literals.{has_told, has_from}
use Rattle.sat_core.specs.Models.{model_value}
use Rattle.sat_core.specs.Variables.{true_literals}

-- the literal of a variable is among those of variables where the variable is
literal_there : (vars : List ℕ) (x : ℕ) → Contains vars x → Contains (true_literals vars) (record { var = x; positive = true })
literal_there [] x c = absurd (contains_none x c)
literal_there (y ∷ vars) x c = elim (contains_cases y vars x c) [
  | inl e ↦ (let P : ℕ → Type 0 = λ z. Contains (true_literals (y ∷ vars)) (record { var = z; positive = true }) in subst P e (contains_head (record { var = y; positive = true }) (true_literals vars)))
  | inr r ↦ contains_tail (record { var = y; positive = true }) (true_literals vars) (record { var = x; positive = true }) (literal_there vars x r)
]

-- and only there
there_literal : (vars : List ℕ) (l : SatLit) → Contains (true_literals vars) l → Contains vars l.var
there_literal [] l c = absurd (contains_none l c)
there_literal (y ∷ vars) l c = elim (contains_cases (record { var = y; positive = true }) (true_literals vars) l c) [
  | inl e ↦ (let P : SatLit → Type 0 = λ k. Contains (y ∷ vars) k.var in subst P e (contains_head y vars))
  | inr r ↦ contains_tail y vars l.var (there_literal vars l r)
]

-- a variable is true where it is one of those of the model
pub value_told : (vars : List ℕ) (x : ℕ) → model_value (true_literals vars) x ≡ true → Contains vars x
value_told vars x h = there_literal vars (record { var = x; positive = true }) (has_told (true_literals vars) (record { var = x; positive = true }) h)

-- and one of those of the model is true
pub value_from : (vars : List ℕ) (x : ℕ) → Contains vars x → model_value (true_literals vars) x ≡ true
value_from vars x c = has_from (true_literals vars) (record { var = x; positive = true }) (literal_there vars x c)

-- what a search in ascending variables finds
pub value_searched : (vars : List ℕ) (x : ℕ) (r : Result ℕ ℕ) → IsSorted nat_cmp vars → IsBinarySearchResult (λ y. nat_cmp y x) vars r → is_ok r ≡ model_value (true_literals vars) x
value_searched vars x r sorted h = by r (searched vars x r h (λ i j le lt. IsNonDecreasingBy-from_sort (λ (y : ℕ). y) vars sorted i j 0 le lt))
  where
    by : (r : Result ℕ ℕ) → MatchResult r (λ i. (i < length vars) × (get_or vars i 0 ≡ x)) (λ i. (i ≤ length vars) × ((k : ℕ) → k < i → get_or vars k 0 < x) × ((k : ℕ) → i ≤ k → k < length vars → x < get_or vars k 0)) → is_ok r ≡ model_value (true_literals vars) x
    by (Ok i) (lt, e) = sym (value_from vars x (i, lt, get_or_default vars i x 0 lt ∙ e))
    by (Err i) (le, below, above) = sym (false_from_ne_true (model_value (true_literals vars) x) (λ t. none (value_told vars x t)))
      where
        none : Contains vars x → ⊥
        none (k, lt, e) =
            let at : get_or vars k 0 ≡ x = sym (get_or_default vars k x 0 lt) ∙ e in
            elim (cases_lt k i) [ inl b ↦ (let u = below k b in omega arith) | inr a ↦ (let u = above k a lt in omega arith) ]

-- variables are those of the literals that are no negations
abbrev pub PicksTrue : List ℕ → List SatLit → Type 0
PicksTrue vars lits = (x : ℕ) → Contains vars x ↔ Contains lits (record { var = x; positive = true })

-- one more literal that is no negation
pub picked_next : (vars new : List ℕ) (front more : List SatLit) (l : SatLit) → new ≡ vars ++ l.var ∷ [] → more ≡ front ++ l ∷ [] → l.positive ≡ true → PicksTrue vars front → PicksTrue new more
picked_next vars new front more l e f p h x = (there, back)
  where
    -- the literal of the variable
    same : l.var ≡ x → l ≡ record { var = x; positive = true }
    same s = λ j. record { var = s j; positive = p j }

    there : Contains new x → Contains more (record { var = x; positive = true })
    there t =
        let P : List ℕ → Type 0 = λ v. Contains v x in
        let Q : List SatLit → Type 0 = λ v. Contains v (record { var = x; positive = true }) in
        let R : SatLit → Type 0 = λ k. Contains (front ++ l ∷ []) k in
        elim (Contains-push_cases vars l.var x (subst P e t)) [
          | inl o ↦ subst Q (sym f) (Contains-append_left front (l ∷ []) (record { var = x; positive = true }) ((h x).0 o))
          | inr s ↦ subst Q (sym f) (subst R (same s) (Contains-push front l))
        ]

    back : Contains more (record { var = x; positive = true }) → Contains new x
    back t =
        let P : List ℕ → Type 0 = λ v. Contains v x in
        let Q : List SatLit → Type 0 = λ v. Contains v (record { var = x; positive = true }) in
        let R : ℕ → Type 0 = λ k. Contains (vars ++ l.var ∷ []) k in
        elim (Contains-push_cases front l (record { var = x; positive = true }) (subst Q f t)) [
          | inl o ↦ subst P (sym e) (Contains-append_left vars (l.var ∷ []) x ((h x).1 o))
          | inr s ↦ subst P (sym e) (subst R (ap (λ (k : SatLit). k.var) s) (Contains-push vars l.var))
        ]

-- one more literal that is a negation
pub picked_not : (vars : List ℕ) (front more : List SatLit) (l : SatLit) → more ≡ front ++ l ∷ [] → l.positive ≡ false → PicksTrue vars front → PicksTrue vars more
picked_not vars front more l f p h x = (there, back)
  where
    there : Contains vars x → Contains more (record { var = x; positive = true })
    there t = let Q : List SatLit → Type 0 = λ v. Contains v (record { var = x; positive = true }) in subst Q (sym f) (Contains-append_left front (l ∷ []) (record { var = x; positive = true }) ((h x).0 t))

    back : Contains more (record { var = x; positive = true }) → Contains vars x
    back t =
        let Q : List SatLit → Type 0 = λ v. Contains v (record { var = x; positive = true }) in
        elim (Contains-push_cases front l (record { var = x; positive = true }) (subst Q f t)) [
          | inl o ↦ (h x).1 o
          | inr s ↦ (let w : false ≡ true = sym p ∙ ap (λ (k : SatLit). k.positive) s in cc)
        ]

-- a model of such variables has the values of the literals
pub picked_value : (model : List SatLit) (vars : List ℕ) (lits : List SatLit) → ((x : ℕ) → IsTrue (model_value model x) ↔ Contains vars x) → PicksTrue vars lits → (x : ℕ) → model_value model x ≡ model_value lits x
picked_value model vars lits m h x = same (model_value model x) (model_value lits x) (λ t. has_from lits (record { var = x; positive = true }) ((h x).0 ((m x).0 t))) (λ t. (m x).1 ((h x).1 (has_told lits (record { var = x; positive = true }) t)))
  where
    same : (a b : Bool) → (a ≡ true → b ≡ true) → (b ≡ true → a ≡ true) → a ≡ b
    same true b f g = sym (f refl)
    same false true f g = g refl
    same false false f g = refl
