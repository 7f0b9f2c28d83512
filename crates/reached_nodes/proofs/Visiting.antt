-- Numbers in a list, and how many nodes a search has found.
use Rattle.std.proofs.Common.{◌≡◌, ℕ, zero, suc, ◌<◌, ◌≤◌, ◌==◌, Bool, true, false, List, [], ◌∷◌, ◌++◌, length, get_or, refl, sym, ◌∙◌, arith, ⊎_elim, ◌⊎◌}
use Rattle.std.specs.List.{sum_by}
use Rattle.std.proofs.lemmas.Bool.{eq-eqb, eqb-true, or_cases, or_left, or_right, true≢false}
use Rattle.std.proofs.lemmas.List.Folds.{list_any-append, list_any_at}
use Rattle.std.proofs.lemmas.List.Sums.{sum_by-cons}
use Rattle.spec_types.specs.Reached.{is_in}
use Rattle.reached_nodes.specs.Visits.{IsSearch, one_if}

-- ---- numbers in a list

pub in_left : (k : ℕ) (xs ys : List ℕ) → is_in k xs ≡ true → is_in k (xs ++ ys) ≡ true
in_left k xs ys h = list_any-append (λ x. x == k) xs ys ∙ or_left (is_in k xs) (is_in k ys) h

pub in_right : (k : ℕ) (xs ys : List ℕ) → is_in k ys ≡ true → is_in k (xs ++ ys) ≡ true
in_right k xs ys h = list_any-append (λ x. x == k) xs ys ∙ or_right (is_in k xs) (is_in k ys) h

pub in_one_of : (k : ℕ) (xs ys : List ℕ) → is_in k (xs ++ ys) ≡ true → (is_in k xs ≡ true) ⊎ (is_in k ys ≡ true)
in_one_of k xs ys h = or_cases (is_in k xs) (is_in k ys) (sym (list_any-append (λ x. x == k) xs ys) ∙ h)

pub in_at : (xs : List ℕ) (i d : ℕ) → i < length xs → is_in (get_or xs i d) xs ≡ true
in_at xs i d lt = list_any_at (λ x. x == get_or xs i d) xs i d lt (eq-eqb (get_or xs i d) (get_or xs i d) refl)

-- the place of a number that is in a list
pub record Place (k : ℕ) (xs : List ℕ) : Type 0 where
  pub at : ℕ
  pub within : at < length xs
  pub is : get_or xs at 0 ≡ k

pub place_of : (k : ℕ) (xs : List ℕ) → is_in k xs ≡ true → Place k xs
place_of k [] h = absurd (true≢false (sym h))
place_of k (x ∷ xs) h = ⊎_elim here (λ e. there (place_of k xs e)) (or_cases (x == k) (is_in k xs) h)
  where
    here : (x == k) ≡ true → Place k (x ∷ xs)
    here e = record { at = zero; within = omega arith; is = eqb-true x k e }

    there : Place k xs → Place k (x ∷ xs)
    there p = record { at = suc p.at; within = omega (arith, p.within); is = p.is }

-- ---- marks

pub marks_within : (marks : List Bool) → sum_by one_if marks ≤ length marks
marks_within [] = omega arith
marks_within (true ∷ marks) = omega (arith, sum_by-cons one_if true marks, marks_within marks)
marks_within (false ∷ marks) = omega (arith, sum_by-cons one_if false marks, marks_within marks)

-- there are no more found nodes than nodes
pub queue_within : (nodes : ℕ) (marks : List Bool) (queue : List ℕ) → IsSearch nodes marks queue → length queue ≤ nodes
queue_within nodes marks queue s = omega (arith, s.size, s.counted, marks_within marks)
