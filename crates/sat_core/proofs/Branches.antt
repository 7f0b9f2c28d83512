-- What a branch of the search gives at its end.
use Rattle.std.proofs.Common.{◌≡◌, ℕ, ◌-◌, ◌<◌, Bool, true, false, not, cond, List, [], ◌∷◌, ◌++◌, length, get_or, drop, map, refl, sym, ap, subst, ◌∙◌, arith, inl, inr, Contains, Some, slice_get}
use Rattle.std.proofs.lemmas.Bool.{not-false, false_from_ne_true, true_from_ne_false, both_ways}
use Rattle.std.proofs.lemmas.List.{get_or_push, length_push}
use Rattle.std.proofs.lemmas.List.Elements.{Contains-append_left, Contains-append_right, Contains-push, Contains-push_cases}
use Rattle.std.proofs.lemmas.Option.{slice_get-get_or}
use Rattle.refutation_check.specs.declared.lit.SatLit.{SatLit}
use Rattle.refutation_check.specs.Truth.{negated, literal_value, clause_value, IsModel}
use Rattle.refutation_check.specs.Propagation.{IsForced, is_given, IsConflict, clause_fails, literal_fails}
use Rattle.refutation_check.specs.Refutations.{EachFollows, IsAccepted}
use Rattle.refutation_check.proofs.Lists.{any_from, contains_head, contains_tail, contains_cases, contains_none}
use Rattle.refutation_check.proofs.Literals.{has_told, has_not}
use Rattle.refutation_check.proofs.Models.{accepted_unmet}
use Rattle.sat_core.specs.Variables.{IsNamed, in_clause, in_assumption, variables_of}
use Rattle.sat_core.specs.Models.{model_value, IsModelOf, IsRefutationOf}
use Rattle.sat_core.specs.Search.{IsSplit, IsCovered, IsClosed}
use Rattle.sat_core.proofs.Naming.{named_there, there_named}
use Rattle.sat_core.proofs.Growth.{follows_push, branch_follows, sides_follow}

-- a split goes on where there is one more
split_kept : (splits : List SatLit) (l : SatLit) (x : ℕ) → IsSplit splits x → IsSplit (splits ++ l ∷ []) x
split_kept splits l x (inl t) = inl (Contains-append_left splits (l ∷ []) (record { var = x; positive = true }) t)
split_kept splits l x (inr t) = inr (Contains-append_left splits (l ∷ []) (record { var = x; positive = false }) t)

-- the variable of the newest split is split
split_there : (splits : List SatLit) (x : ℕ) (p : Bool) → IsSplit (splits ++ record { var = x; positive = p } ∷ []) x
split_there splits x true = inl (Contains-push splits (record { var = x; positive = true }))
split_there splits x false = inr (Contains-push splits (record { var = x; positive = false }))

module _ (clauses : List (List SatLit)) (assumptions : List SatLit) where
  -- at the start all variables are left
  pub covered_first : IsCovered clauses assumptions (variables_of clauses assumptions) []
  covered_first = record {
    all = λ x n. inl (named_there clauses assumptions x n);
    vars_named = λ x c. there_named clauses assumptions x c;
    splits_named = λ l c. absurd (contains_none l c);
  }

  -- on each side the first variable that was left is split
  pub covered_side : (vars : List ℕ) (splits : List SatLit) (x : ℕ) (p : Bool) → 0 < length vars → get_or vars 0 x ≡ x → IsCovered clauses assumptions vars splits → IsCovered clauses assumptions (drop 1 vars) (splits ++ record { var = x; positive = p } ∷ [])
  covered_side [] splits x p lt e h = absurd (omega arith)
  covered_side (y ∷ rest) splits x p lt e h =
      let S : ℕ → Type 0 = λ z. IsSplit (splits ++ record { var = x; positive = p } ∷ []) z in
      let N : ℕ → Type 0 = λ z. IsNamed clauses assumptions z in
      let named : IsNamed clauses assumptions x = subst N e (h.vars_named y (contains_head y rest)) in
      record {
        all = λ z n. elim (h.all z n) [
          | inl t ↦ elim (contains_cases y rest z t) [ inl s ↦ inr (subst S (sym e ∙ s) (split_there splits x p)) | inr r ↦ inl r ]
          | inr t ↦ inr (split_kept splits (record { var = x; positive = p }) z t)
        ];
        vars_named = λ z t. h.vars_named z (contains_tail y rest z t);
        splits_named = λ l t. elim (Contains-push_cases splits (record { var = x; positive = p }) l t) [
          | inl o ↦ h.splits_named l o
          | inr s ↦ subst N (ap (λ (k : SatLit). k.var) s) named
        ];
      }

  -- the negation of a literal that is false is one of the splits
  false_split : (splits : List SatLit) (l : SatLit) → IsSplit splits l.var → literal_value (model_value splits) l ≡ false → Contains splits (negated l)
  false_split splits l s f = by l.positive s f
    where
      by : (p : Bool) → IsSplit splits l.var → cond p (model_value splits l.var) (not (model_value splits l.var)) ≡ false → Contains splits (record { var = l.var; positive = not p })
      by true (inl t) h = absurd (has_not splits (record { var = l.var; positive = true }) h t)
      by true (inr t) h = t
      by false (inl t) h = t
      by false (inr t) h = has_told splits (record { var = l.var; positive = true }) (not-false (model_value splits l.var) h)

  module _ (vars : List ℕ) (splits : List SatLit) (h : IsCovered clauses assumptions vars splits) (none : length vars ≡ 0) (unmet : IsConflict clauses (assumptions ++ splits) → ⊥) where
    -- each variable that is named is split
    all_split : (x : ℕ) → IsNamed clauses assumptions x → IsSplit splits x
    all_split x n = elim (h.all x n) [ inl t ↦ absurd (let lt = t.1 in omega arith) | inr s ↦ s ]

    -- the negation of a literal that is false is forced
    false_forced : (l : SatLit) → IsNamed clauses assumptions l.var → literal_value (model_value splits) l ≡ false → IsForced clauses (assumptions ++ splits) (negated l)
    false_forced l n f = is_given (negated l) (Contains-append_right assumptions splits (negated l) (false_split splits l (all_split l.var n) f))

    -- each clause is true
    clause_true : (c : List SatLit) → Contains clauses c → clause_value (model_value splits) c ≡ true
    clause_true c t = true_from_ne_false (clause_value (model_value splits) c) (λ f. unmet (clause_fails c t (λ k s. false_forced k (in_clause c k t s refl) (none_true k s f))))
      where
        none_true : (k : SatLit) → Contains c k → clause_value (model_value splits) c ≡ false → literal_value (model_value splits) k ≡ false
        none_true k s f = false_from_ne_true (literal_value (model_value splits) k) (λ g. both_ways (clause_value (model_value splits) c) f (any_from (literal_value (model_value splits)) c k s g))

    -- each assumption is true
    assumption_true : (l : SatLit) → Contains assumptions l → literal_value (model_value splits) l ≡ true
    assumption_true l t = true_from_ne_false (literal_value (model_value splits) l) (λ f. unmet (literal_fails l (is_given l (Contains-append_left assumptions splits l t)) (false_forced l (in_assumption l t refl) f)))

    -- where all variables are split and there is no conflict, the splits are a model
    pub leaf_model : IsModelOf clauses assumptions splits
    leaf_model = record {
      holds = record { clauses_hold = clause_true; assumptions_hold = assumption_true };
      unnamed = λ x out. false_from_ne_true (model_value splits x) (λ t. out (h.splits_named (record { var = x; positive = true }) (has_told splits (record { var = x; positive = true }) t)));
    }

  -- literals that give the values of a model are one
  pub same_model : (lits model : List SatLit) → ((x : ℕ) → model_value lits x ≡ model_value model x) → IsModelOf clauses assumptions model → IsModelOf clauses assumptions lits
  same_model lits model h m =
      let P : (ℕ → Bool) → Type 0 = λ v. IsModel v clauses assumptions in
      let e : model_value lits ≡ model_value model = λ j x. h x j in
      record { holds = subst P (sym e) m.holds; unnamed = λ x out. h x ∙ m.unnamed x out }

  -- a branch that meets a conflict is closed
  pub closed_leaf : (splits : List SatLit) (old new : List (List SatLit)) → EachFollows clauses assumptions old → IsConflict clauses (assumptions ++ splits) → new ≡ old ++ map negated splits ∷ [] → IsClosed clauses assumptions splits old new
  closed_leaf splits old new each h e =
      let E : List (List SatLit) → Type 0 = λ r. EachFollows clauses assumptions r in
      record {
        each_follows = subst E (sym e) (follows_push clauses assumptions old (map negated splits) each (branch_follows clauses old assumptions splits h));
        kept = λ c t. (let C : List (List SatLit) → Type 0 = λ r. Contains r c in subst C (sym e) (Contains-append_left old (map negated splits ∷ []) c t));
        earlier = old;
        ends = e;
      }

  -- its clause is in the refutation
  closed_there : (splits : List SatLit) (old new : List (List SatLit)) → IsClosed clauses assumptions splits old new → Contains new (map negated splits)
  closed_there splits old new h = let C : List (List SatLit) → Type 0 = λ r. Contains r (map negated splits) in subst C (sym h.ends) (Contains-push h.earlier (map negated splits))

  -- a branch whose sides are closed is closed
  pub closed_sides : (splits : List SatLit) (x : ℕ) (old middle last new : List (List SatLit)) → IsClosed clauses assumptions (splits ++ record { var = x; positive = true } ∷ []) old middle → IsClosed clauses assumptions (splits ++ record { var = x; positive = false } ∷ []) middle last → new ≡ last ++ map negated splits ∷ [] → IsClosed clauses assumptions splits old new
  closed_sides splits x old middle last new up down e =
      let E : List (List SatLit) → Type 0 = λ r. EachFollows clauses assumptions r in
      let first = down.kept (map negated (splits ++ record { var = x; positive = true } ∷ [])) (closed_there (splits ++ record { var = x; positive = true } ∷ []) old middle up) in
      let second = closed_there (splits ++ record { var = x; positive = false } ∷ []) middle last down in
      record {
        each_follows = subst E (sym e) (follows_push clauses assumptions last (map negated splits) down.each_follows (sides_follow clauses last assumptions splits x first second));
        kept = λ c t. (let C : List (List SatLit) → Type 0 = λ r. Contains r c in subst C (sym e) (Contains-append_left last (map negated splits ∷ []) c (down.kept c (up.kept c t))));
        earlier = last;
        ends = e;
      }

  -- where the first branch is closed, the refutation is accepted
  pub closed_first : (old steps : List (List SatLit)) → IsClosed clauses assumptions [] old steps → IsRefutationOf clauses assumptions steps
  closed_first old steps h =
      let P : List (List SatLit) → Type 0 = λ r. slice_get r (length r - 1) ≡ Some [] in
      let n : length h.earlier ≡ length (h.earlier ++ [] ∷ []) - 1 = omega (arith, length_push h.earlier []) in
      let lt : length (h.earlier ++ [] ∷ []) - 1 < length (h.earlier ++ [] ∷ []) = omega (arith, length_push h.earlier []) in
      let at : slice_get (h.earlier ++ [] ∷ []) (length (h.earlier ++ [] ∷ []) - 1) ≡ Some [] = slice_get-get_or (h.earlier ++ [] ∷ []) (length (h.earlier ++ [] ∷ []) - 1) [] lt ∙ ap (λ (c : List SatLit). Some c) (get_or_push h.earlier [] [] (length (h.earlier ++ [] ∷ []) - 1) n) in
      let a : IsAccepted clauses assumptions steps = record { ends_empty = subst P (sym h.ends) at; each_follows = h.each_follows } in
      record { accepted = a; none = λ v m. accepted_unmet v clauses assumptions steps m a }
