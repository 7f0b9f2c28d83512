-- What one look at a clause tells, and one look at all of them.
use Rattle.std.proofs.Common.{◌≡◌, ◌≢◌, Bool, true, false, not, ◌&&◌, ◌||◌, List, [], ◌∷◌, ◌++◌, refl, sym, ap, subst, ◌∙◌, Option, Some, None, find, cond, inl, inr, Contains}
use Rattle.std.specs.List.{list_all}
use Rattle.std.proofs.lemmas.Bool.{and_parts, and_cases, or_cases, or_left, or_right, both_ways, not-true, not-false}
use Rattle.refutation_check.specs.declared.lit.SatLit.{SatLit}
use Rattle.refutation_check.specs.declared.propagation.Due.{Due}
use Rattle.refutation_check.specs.declared.propagation.Due.TheVariants as due
use Rattle.refutation_check.specs.Truth.{negated, same_lit, has}
use Rattle.refutation_check.specs.Dues.{due_from, due_of, first_due, due_in}
use Rattle.refutation_check.proofs.Lists.{contains_head, contains_tail, contains_cases, contains_none, all_told, all_from, found, not_found}
use Rattle.refutation_check.proofs.Literals.{lit_told, lit_from, lit_cases, has_told, has_from, has_not}

-- a literal of a clause is not on the trail, neither is its negation, and every other literal of the clause is false
pub record IsUnitAt (trail c : List SatLit) (l : SatLit) : Type 0 where
  pub there : Contains c l
  pub new : has trail l ≡ false
  pub not_false : has trail (negated l) ≡ false
  pub others : (k : SatLit) → Contains c k → k ≢ l → Contains trail (negated k)

-- a clause is not false, and has no literal that is to be put on the trail
pub record IsAtRest (trail c : List SatLit) : Type 0 where
  pub not_false : ((k : SatLit) → Contains c k → Contains trail (negated k)) → ⊥
  pub unit_there : (l : SatLit) → Contains c l → ((k : SatLit) → Contains c k → k ≢ l → Contains trail (negated k)) → Contains trail l

module _ (trail c : List SatLit) where
  -- each other literal is false
  others_told : (l : SatLit) → list_all (λ k. same_lit k l || has trail (negated k)) c ≡ true → (k : SatLit) → Contains c k → k ≢ l → Contains trail (negated k)
  others_told l h k t ne = elim (or_cases (same_lit k l) (has trail (negated k)) (all_told (λ k. same_lit k l || has trail (negated k)) c k h t)) [ inl e ↦ absurd (ne (lit_told k l e)) | inr f ↦ has_told trail (negated k) f ]

  -- and the test says so
  others_from : (l : SatLit) → ((k : SatLit) → Contains c k → k ≢ l → Contains trail (negated k)) → list_all (λ k. same_lit k l || has trail (negated k)) c ≡ true
  others_from l h = all_from (λ k. same_lit k l || has trail (negated k)) c (λ k t. elim (lit_cases k l) [ inl e ↦ or_left (same_lit k l) (has trail (negated k)) (lit_from k l e) | inr ne ↦ or_right (same_lit k l) (has trail (negated k)) (has_from trail (negated k) (h k t ne)) ])

  -- what a clause that forces a literal is
  pub forced_told : (l : SatLit) → due_of trail c ≡ due.Forced l → IsUnitAt trail c l
  unfolding due_of
  forced_told l e = by (find (λ k. not (has trail (negated k))) c) refl e
    where
      under : (f : SatLit) (b : Bool) → find (λ k. not (has trail (negated k))) c ≡ Some f → (not (has trail f) && list_all (λ k. same_lit k f || has trail (negated k)) c) ≡ b → cond b (due.Forced f) due.Nothing ≡ due.Forced l → IsUnitAt trail c l
      under f true h t q =
          let s : f ≡ l = cc in
          let r = found (λ k. not (has trail (negated k))) c f h in
          let parts = and_parts (not (has trail f)) (list_all (λ k. same_lit k f || has trail (negated k)) c) t in
          let u : IsUnitAt trail c f = record { there = r.0; new = not-true (has trail f) parts.0; not_false = not-true (has trail (negated f)) r.1; others = others_told f parts.1 } in
          let P : SatLit → Type 0 = λ x. IsUnitAt trail c x in
          subst P s u
      under f false h t q = cc

      by : (o : Option SatLit) → find (λ k. not (has trail (negated k))) c ≡ o → due_from trail c o ≡ due.Forced l → IsUnitAt trail c l
      by None h q = cc
      by (Some f) h q = under f (not (has trail f) && list_all (λ k. same_lit k f || has trail (negated k)) c) h refl q

  -- what a clause that is false is
  pub conflict_told : due_of trail c ≡ due.Conflict → (k : SatLit) → Contains c k → Contains trail (negated k)
  unfolding due_of
  conflict_told e k t = by (find (λ k. not (has trail (negated k))) c) refl e
    where
      under : (f : SatLit) (b : Bool) → cond b (due.Forced f) due.Nothing ≡ due.Conflict → Contains trail (negated k)
      under f true q = cc
      under f false q = cc

      by : (o : Option SatLit) → find (λ k. not (has trail (negated k))) c ≡ o → due_from trail c o ≡ due.Conflict → Contains trail (negated k)
      by None h q = has_told trail (negated k) (not-false (has trail (negated k)) (not_found (λ k. not (has trail (negated k))) c k h t))
      by (Some f) h q = under f (not (has trail f) && list_all (λ k. same_lit k f || has trail (negated k)) c) q

  -- what a clause that gives nothing is
  pub nothing_told : due_of trail c ≡ due.Nothing → IsAtRest trail c
  unfolding due_of
  nothing_told e = by (find (λ k. not (has trail (negated k))) c) refl e
    where
      rests : (f : SatLit) → find (λ k. not (has trail (negated k))) c ≡ Some f → (not (has trail f) && list_all (λ k. same_lit k f || has trail (negated k)) c) ≡ false → IsAtRest trail c
      rests f h t =
          let r = found (λ k. not (has trail (negated k))) c f h in
          let open_f = not-true (has trail (negated f)) r.1 in
          let kept : ((k : SatLit) → Contains c k → k ≢ f → Contains trail (negated k)) → Contains trail f = λ o. elim (and_cases (not (has trail f)) (list_all (λ k. same_lit k f || has trail (negated k)) c) t) [ inl n ↦ has_told trail f (not-false (has trail f) n) | inr n ↦ absurd (both_ways (list_all (λ k. same_lit k f || has trail (negated k)) c) n (others_from f o)) ] in
          record {
            not_false = λ a. has_not trail (negated f) open_f (a f r.0);
            unit_there = λ l u o. elim (lit_cases f l) [ inl s ↦ (let P : SatLit → Type 0 = λ x. ((k : SatLit) → Contains c k → k ≢ x → Contains trail (negated k)) → Contains trail x in subst P s kept o) | inr ne ↦ absurd (has_not trail (negated f) open_f (o f r.0 ne)) ];
          }

      under : (f : SatLit) (b : Bool) → find (λ k. not (has trail (negated k))) c ≡ Some f → (not (has trail f) && list_all (λ k. same_lit k f || has trail (negated k)) c) ≡ b → cond b (due.Forced f) due.Nothing ≡ due.Nothing → IsAtRest trail c
      under f true h t q = cc
      under f false h t q = rests f h t

      by : (o : Option SatLit) → find (λ k. not (has trail (negated k))) c ≡ o → due_from trail c o ≡ due.Nothing → IsAtRest trail c
      by None h q = cc
      by (Some f) h q = under f (not (has trail f) && list_all (λ k. same_lit k f || has trail (negated k)) c) h refl q

-- a clause of a list gives this
pub record HasDue (trail : List SatLit) (clauses : List (List SatLit)) (d : Due) : Type 0 where
  pub clause : List SatLit
  pub there : Contains clauses clause
  pub gives : due_of trail clause ≡ d

module _ (trail : List SatLit) where
  -- one clause more in front
  pub due_more : (c : List SatLit) (clauses : List (List SatLit)) (d : Due) → HasDue trail clauses d → HasDue trail (c ∷ clauses) d
  due_more c clauses d h = record { clause = h.clause; there = contains_tail c clauses h.clause h.there; gives = h.gives }

  -- a literal that clauses force is forced by one of them
  pub forced_in : (clauses : List (List SatLit)) (l : SatLit) → due_in trail clauses ≡ due.Forced l → HasDue trail clauses (due.Forced l)
  forced_in [] l e = cc
  forced_in (c ∷ clauses) l e = by (forced_in clauses l) (due_of trail c) refl e
    where
      by : (due_in trail clauses ≡ due.Forced l → HasDue trail clauses (due.Forced l)) → (d : Due) → due_of trail c ≡ d → first_due d (due_in trail clauses) ≡ due.Forced l → HasDue trail (c ∷ clauses) (due.Forced l)
      by rest due.Nothing h q = due_more c clauses (due.Forced l) (rest q)
      by rest (due.Forced k) h q = record { clause = c; there = contains_head c clauses; gives = h ∙ q }
      by rest due.Conflict h q = cc

  -- and one of the clauses is false where they are in conflict
  pub conflict_in : (clauses : List (List SatLit)) → due_in trail clauses ≡ due.Conflict → HasDue trail clauses due.Conflict
  conflict_in [] e = cc
  conflict_in (c ∷ clauses) e = by (conflict_in clauses) (due_of trail c) refl e
    where
      by : (due_in trail clauses ≡ due.Conflict → HasDue trail clauses due.Conflict) → (d : Due) → due_of trail c ≡ d → first_due d (due_in trail clauses) ≡ due.Conflict → HasDue trail (c ∷ clauses) due.Conflict
      by rest due.Nothing h q = due_more c clauses due.Conflict (rest q)
      by rest (due.Forced k) h q = cc
      by rest due.Conflict h q = record { clause = c; there = contains_head c clauses; gives = h }

  -- where clauses give nothing, each gives nothing
  pub nothing_in : (clauses : List (List SatLit)) → due_in trail clauses ≡ due.Nothing → (c : List SatLit) → Contains clauses c → due_of trail c ≡ due.Nothing
  nothing_in [] e k t = absurd (contains_none k t)
  nothing_in (c ∷ clauses) e k t = by (λ q r. nothing_in clauses q k r) (due_of trail c) refl e
    where
      by : (due_in trail clauses ≡ due.Nothing → Contains clauses k → due_of trail k ≡ due.Nothing) → (d : Due) → due_of trail c ≡ d → first_due d (due_in trail clauses) ≡ due.Nothing → due_of trail k ≡ due.Nothing
      by rest due.Nothing h q = elim (contains_cases c clauses k t) [ inl s ↦ sym (ap (λ (x : List SatLit). due_of trail x) s) ∙ h | inr r ↦ rest q r ]
      by rest (due.Forced l) h q = cc
      by rest due.Conflict h q = cc

  -- one more look after another
  first_assoc : (d e f : Due) → first_due (first_due d e) f ≡ first_due d (first_due e f)
  first_assoc due.Nothing e f = refl
  first_assoc (due.Forced l) e f = refl
  first_assoc due.Conflict e f = refl

  -- two lists of clauses, one after the other
  pub due_append : (clauses more : List (List SatLit)) → due_in trail (clauses ++ more) ≡ first_due (due_in trail clauses) (due_in trail more)
  due_append [] more = refl
  due_append (c ∷ clauses) more = ap (λ (d : Due). first_due (due_of trail c) d) (due_append clauses more) ∙ sym (first_assoc (due_of trail c) (due_in trail clauses) (due_in trail more))

  -- where the first list gives nothing
  pub due_behind : (clauses more : List (List SatLit)) (d : Due) → due_in trail clauses ≡ due.Nothing → d ≡ due_in trail more → d ≡ due_in trail (clauses ++ more)
  due_behind clauses more d e h = h ∙ sym (due_append clauses more ∙ ap (λ (x : Due). first_due x (due_in trail more)) e)

  -- where the first list gives something
  pub due_before : (clauses more : List (List SatLit)) (d : Due) → (d ≡ due.Nothing → ⊥) → d ≡ due_in trail clauses → d ≡ due_in trail (clauses ++ more)
  due_before clauses more d ne h = by d ne h ∙ sym (due_append clauses more)
    where
      by : (f : Due) → (f ≡ due.Nothing → ⊥) → f ≡ due_in trail clauses → f ≡ first_due (due_in trail clauses) (due_in trail more)
      by due.Nothing n q = absurd (n refl)
      by (due.Forced l) n q = ap (λ (x : Due). first_due x (due_in trail more)) q
      by due.Conflict n q = ap (λ (x : Due). first_due x (due_in trail more)) q
