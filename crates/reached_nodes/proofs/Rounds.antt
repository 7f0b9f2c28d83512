-- The rounds in which the nodes of a graph are reached, and a search that goes through the nodes that it finds.
use Rattle.std.proofs.Common.{Global, Vec, ◌≡◌, ℕ, zero, suc, ◌+◌, ◌-◌, ◌<◌, ◌≤◌, ◌==◌, Bool, true, false, List, [], ◌∷◌, ◌++◌, length, map, get_or, refl, sym, ap, subst, ◌∙◌, arith, ⊎_elim, length-append}
use Rattle.std.specs.List.{flat_map, range_with_len}
use Rattle.std.proofs.lemmas.Bool.{true≢false, cases_eq, cases_lt, false_from_ne_true, eq-eqb, eqb-true, or_cases, or_left, or_right}
use Rattle.std.proofs.lemmas.List.{get_or_append_left, get_or-append_right, get_or-map, get_or_past}
use Rattle.std.proofs.lemmas.List.FromFn.{fill_by_all}
use Rattle.spec_types.specs.Reached.{is_in, is_reached, reached_by, successors}
use Rattle.reached_nodes.specs.Visits.{IsSearch, Visits}
use Rattle.reached_nodes.proofs.Visiting.{Place, in_at, in_left, in_one_of, in_right, place_of}

-- ---- numbers in lists that are joined

pub in_joined : (f : ℕ → List ℕ) (xs : List ℕ) (x k : ℕ) → is_in x xs ≡ true → is_in k (f x) ≡ true → is_in k (flat_map f xs) ≡ true
in_joined f [] x k h e = absurd (true≢false (sym h))
in_joined f (y ∷ ys) x k h e = ⊎_elim here (λ t. in_right k (f y) (flat_map f ys) (in_joined f ys x k t e)) (or_cases (y == x) (is_in x ys) h)
  where
    here : (y == x) ≡ true → is_in k (f y ++ flat_map f ys) ≡ true
    here t = in_left k (f y) (flat_map f ys) (rw (eqb-true y x t) e)

-- a number whose list has this one
pub record Source (f : ℕ → List ℕ) (xs : List ℕ) (k : ℕ) : Type 0 where
  pub from : ℕ
  pub there : is_in from xs ≡ true
  pub leads : is_in k (f from) ≡ true

pub source_of : (f : ℕ → List ℕ) (xs : List ℕ) (k : ℕ) → is_in k (flat_map f xs) ≡ true → Source f xs k
source_of f [] k h = absurd (true≢false (sym h))
source_of f (x ∷ xs) k h = ⊎_elim here (λ e. there (source_of f xs k e)) (in_one_of k (f x) (flat_map f xs) h)
  where
    here : is_in k (f x) ≡ true → Source f (x ∷ xs) k
    here e = record { from = x; there = or_left (x == x) (is_in x xs) (eq-eqb x x refl); leads = e }

    there : Source f xs k → Source f (x ∷ xs) k
    there s = record { from = s.from; there = or_right (x == s.from) (is_in s.from xs) s.there; leads = s.leads }

module _ (edges : List (List ℕ)) (seeds : List ℕ) where
  -- what is reached stays so in later rounds
  pub reached_later : (n m k : ℕ) → n ≤ m → is_in k (reached_by edges seeds n) ≡ true → is_in k (reached_by edges seeds m) ≡ true
  reached_later n zero k le h = let same : n ≡ zero = omega arith in subst (λ (i : ℕ). is_in k (reached_by edges seeds i) ≡ true) same h
  reached_later n (suc m) k le h = ⊎_elim now (λ other. before (reached_later n m k (less other) h)) (cases_eq n (suc m))
    where
      now : n ≡ suc m → is_in k (reached_by edges seeds (suc m)) ≡ true
      now same = subst (λ (i : ℕ). is_in k (reached_by edges seeds i) ≡ true) same h

      less : (n ≡ suc m → ⊥) → n ≤ m
      less other = omega arith

      before : is_in k (reached_by edges seeds m) ≡ true → is_in k (reached_by edges seeds (suc m)) ≡ true
      before e = in_left k (reached_by edges seeds m) (flat_map (successors edges) (reached_by edges seeds m)) e

  -- where an edge leads
  pub reached_next : (n x k : ℕ) → is_in x (reached_by edges seeds n) ≡ true → is_in k (successors edges x) ≡ true → is_in k (reached_by edges seeds (suc n)) ≡ true
  reached_next n x k h e = in_right k (reached_by edges seeds n) (flat_map (successors edges) (reached_by edges seeds n)) (in_joined (successors edges) (reached_by edges seeds n) x k h e)

  -- The search has gone through the nodes before a place of the queue. What stands at a place is reached in so many rounds.
  pub record Found (queue : List ℕ) (next : ℕ) : Type 0 where
    pub begun : (k : ℕ) → k < length edges → is_in k seeds ≡ true → is_in k queue ≡ true
    pub passed : (i k : ℕ) → i < next → k < length edges → is_in k (successors edges (get_or queue i 0)) ≡ true → is_in k queue ≡ true
    pub in_rounds : (i : ℕ) → i < length queue → is_in (get_or queue i 0) (reached_by edges seeds i) ≡ true

  pub found_first : (queue : List ℕ) → Visits (length edges) seeds [] queue → Found queue 0
  found_first queue v = record {
    begun = λ k lt e. v.all k lt e;
    passed = λ i k lt. absurd (omega arith);
    in_rounds = λ i lt. reached_later 0 i (get_or queue i 0) (omega arith) (v.given (get_or queue i 0) (subst (λ (q : List ℕ). is_in (get_or queue i 0) q ≡ true) v.behind (in_at queue i 0 lt)));
  }

  module _ (old new : List ℕ) (next : ℕ) (h : Found old next) (lt : next < length old) (v : Visits (length edges) (successors edges (get_or old next 0)) old new) where
    kept : (k : ℕ) → is_in k old ≡ true → is_in k new ≡ true
    kept k e = rw v.behind (in_left k old v.added e)

    before : (i : ℕ) → i < length old → get_or new i 0 ≡ get_or old i 0
    before i le = ap (λ (q : List ℕ). get_or q i 0) v.behind ∙ get_or_append_left old v.added 0 i le

    behind : (i : ℕ) → length old ≤ i → i < length new → is_in (get_or new i 0) (successors edges (get_or old next 0)) ≡ true
    behind i le within =
        let size : length new ≡ length old + length v.added = ap length v.behind ∙ length-append old v.added in
        let moved : get_or new i 0 ≡ get_or v.added (i - length old) 0 = ap (λ (q : List ℕ). get_or q i 0) v.behind ∙ get_or-append_right old v.added (length old) i 0 refl le in
        let there : i - length old < length v.added = omega arith in
        rw moved (v.given (get_or v.added (i - length old) 0) (in_at v.added (i - length old) 0 there))

    pub found_more : Found new (next + 1)
    found_more = record {
      begun = λ k le e. kept k (h.begun k le e);
      passed = passed;
      in_rounds = in_rounds;
    }
      where
        passed : (i k : ℕ) → i < next + 1 → k < length edges → is_in k (successors edges (get_or new i 0)) ≡ true → is_in k new ≡ true
        passed i k before_next le e = ⊎_elim earlier last (cases_eq i next)
          where
            at_old : i < length old → is_in k (successors edges (get_or old i 0)) ≡ true
            at_old there = subst (λ (x : ℕ). is_in k (successors edges x) ≡ true) (before i there) e

            last : (i ≡ next → ⊥) → is_in k new ≡ true
            last other = let sooner : i < next = omega arith in kept k (h.passed i k sooner le (at_old (omega arith)))

            earlier : i ≡ next → is_in k new ≡ true
            earlier same = let there : i < length old = omega arith in v.all k le (subst (λ (j : ℕ). is_in k (successors edges (get_or old j 0)) ≡ true) same (at_old there))

        in_rounds : (i : ℕ) → i < length new → is_in (get_or new i 0) (reached_by edges seeds i) ≡ true
        in_rounds i within = ⊎_elim early late (cases_lt i (length old))
          where
            early : i < length old → is_in (get_or new i 0) (reached_by edges seeds i) ≡ true
            early le = rw (before i le) (h.in_rounds i le)

            late : length old ≤ i → is_in (get_or new i 0) (reached_by edges seeds i) ≡ true
            late le = reached_later (suc next) i (get_or new i 0) (omega arith) (reached_next next (get_or old next 0) (get_or new i 0) (h.in_rounds next lt) (behind i le within))

  module _ (queue : List ℕ) (next : ℕ) (h : Found queue next) (le : length queue ≤ next) where
    -- what is reached is found
    found : (m k : ℕ) → k < length edges → is_in k (reached_by edges seeds m) ≡ true → is_in k queue ≡ true
    found zero k lt e = h.begun k lt e
    found (suc m) k lt e = ⊎_elim (found m k lt) (by_edge (found m)) (in_one_of k (reached_by edges seeds m) (flat_map (successors edges) (reached_by edges seeds m)) e)
      where
        at_place : (x : ℕ) → is_in k (successors edges x) ≡ true → Place x queue → is_in k queue ≡ true
        at_place x leads p = h.passed p.at k (omega (arith, p.within)) lt (subst (λ (y : ℕ). is_in k (successors edges y) ≡ true) (sym p.is) leads)

        no_node : (x : ℕ) → is_in k (successors edges x) ≡ true → length edges ≤ x → is_in k queue ≡ true
        no_node x leads past = absurd (true≢false (sym (subst (λ (xs : List ℕ). is_in k xs ≡ true) (get_or_past edges x [] past) leads)))

        by_source : ((x : ℕ) → x < length edges → is_in x (reached_by edges seeds m) ≡ true → is_in x queue ≡ true) → Source (successors edges) (reached_by edges seeds m) k → is_in k queue ≡ true
        by_source known s = ⊎_elim (λ there. at_place s.from s.leads (place_of s.from queue (known s.from there s.there))) (no_node s.from s.leads) (cases_lt s.from (length edges))

        by_edge : ((x : ℕ) → x < length edges → is_in x (reached_by edges seeds m) ≡ true → is_in x queue ≡ true) → is_in k (flat_map (successors edges) (reached_by edges seeds m)) ≡ true → is_in k queue ≡ true
        by_edge known t = by_source known (source_of (successors edges) (reached_by edges seeds m) k t)

    -- what is found is reached
    reached : length queue ≤ length edges → (k : ℕ) → is_in k queue ≡ true → is_reached edges seeds k ≡ true
    reached size k e = at_place (place_of k queue e)
      where
        at_place : Place k queue → is_reached edges seeds k ≡ true
        at_place p = reached_later p.at (length edges) k (omega (arith, p.within)) (subst (λ (x : ℕ). is_in x (reached_by edges seeds p.at) ≡ true) p.is (h.in_rounds p.at p.within))

    pub found_all : (marks : List Bool) → IsSearch (length edges) marks queue → length queue ≤ length edges → marks ≡ map (is_reached edges seeds) (range_with_len 0 (length edges))
    found_all marks s size = fill_by_all (is_reached edges seeds) marks (length edges) false s.size (λ k lt. s.marked k lt ∙ same k lt)
      where
        same : (k : ℕ) → k < length edges → is_in k queue ≡ is_reached edges seeds k
        same k lt = by_test (is_in k queue) refl
          where
            by_test : (b : Bool) → is_in k queue ≡ b → is_in k queue ≡ is_reached edges seeds k
            by_test true e = e ∙ sym (reached size k e)
            by_test false e = e ∙ sym (false_from_ne_true (is_reached edges seeds k) (λ t. true≢false (sym (found (length edges) k lt t) ∙ e)))

-- the lists of the nodes to which edges lead
abbrev pub lists_of : List (Vec ℕ Global) → List (List ℕ)
lists_of edges = map (λ e. e.items) edges

pub successors_of : (edges : List (Vec ℕ Global)) (i : ℕ) (v : Vec ℕ Global) → i < length edges → v ≡ get_or edges i v → v.items ≡ successors (lists_of edges) i
successors_of edges i v lt e = ap (λ (w : Vec ℕ Global). w.items) e ∙ sym (get_or-map (λ w. w.items) edges i v [] lt)
