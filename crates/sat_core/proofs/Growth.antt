-- What a refutation keeps where a clause is added that follows.
use Rattle.std.proofs.Common.{◌≡◌, ◌≢◌, ℕ, ◌<◌, ◌≤◌, true, false, List, [], ◌∷◌, ◌++◌, length, take, map, refl, sym, ap, subst, ◌∙◌, arith, ◌⊎◌, inl, inr, Contains, Some, slice_get}
use Rattle.std.proofs.lemmas.Bool.{cases_lt}
use Rattle.std.proofs.lemmas.List.{take-append-le, take_at, get_or_append_left, get_or_push, length_push}
use Rattle.std.proofs.lemmas.List.Elements.{Contains-append_left, Contains-append_right, Contains-push, Contains-push_cases}
use Rattle.std.proofs.lemmas.Option.{slice_get_within, slice_get-get_or, get_or_from_slice_get}
use Rattle.refutation_check.specs.declared.lit.SatLit.{SatLit}
use Rattle.refutation_check.specs.Truth.{negated}
use Rattle.refutation_check.specs.Propagation.{IsForced, is_given, is_unit, IsConflict, clause_fails, literal_fails}
use Rattle.refutation_check.specs.Refutations.{Follows, EachFollows}
use Rattle.refutation_check.proofs.Literals.{negated_twice}
use Rattle.refutation_check.proofs.Models.{contains_map, map_contains}

-- more clauses force no less
pub forced_more : (clauses more : List (List SatLit)) (given : List SatLit) (l : SatLit) → IsForced clauses given l → IsForced (clauses ++ more) given l
forced_more clauses more given _ (is_given l t) = is_given l t
forced_more clauses more given _ (is_unit l c t u others) = is_unit l c (Contains-append_left clauses more c t) u (λ k s ne. forced_more clauses more given (negated k) (others k s ne))

-- and a conflict stays one
pub conflict_more : (clauses more : List (List SatLit)) (given : List SatLit) → IsConflict clauses given → IsConflict (clauses ++ more) given
conflict_more clauses more given (clause_fails c t fails) = clause_fails c (Contains-append_left clauses more c t) (λ k s. forced_more clauses more given (negated k) (fails k s))
conflict_more clauses more given (literal_fails l f g) = literal_fails l (forced_more clauses more given l f) (forced_more clauses more given (negated l) g)

-- the negations of negations
pub map_twice : (lits : List SatLit) → map negated (map negated lits) ≡ lits
map_twice [] = refl
map_twice (l ∷ lits) = let e = negated_twice l in let f = map_twice lits in λ j. e j ∷ f j

-- a clause that follows may be added
pub follows_push : (clauses : List (List SatLit)) (assumptions : List SatLit) (steps : List (List SatLit)) (c : List SatLit) → EachFollows clauses assumptions steps → Follows (clauses ++ steps) assumptions c → EachFollows clauses assumptions (steps ++ c ∷ [])
follows_push clauses assumptions steps c each last i d e = by (cases_lt i (length steps))
  where
    within : i < length (steps ++ c ∷ [])
    within = slice_get_within (steps ++ c ∷ []) i d e

    by : (i < length steps) ⊎ (length steps ≤ i) → Follows (clauses ++ take i (steps ++ c ∷ [])) assumptions d
    by (inl lt) =
        let P : List (List SatLit) → Type 0 = λ r. Follows (clauses ++ r) assumptions d in
        let le : i ≤ length steps = omega arith in
        let at : slice_get steps i ≡ Some d = slice_get-get_or steps i d lt ∙ ap (λ (x : List SatLit). Some x) (sym (get_or_append_left steps (c ∷ []) d i lt) ∙ get_or_from_slice_get (steps ++ c ∷ []) i d d e) in
        subst P (sym (take-append-le i steps (c ∷ []) le)) (each i d at)
    by (inr ge) =
        let P : List (List SatLit) → Type 0 = λ r. Follows (clauses ++ r) assumptions d in
        let w : i < length (steps ++ c ∷ []) = within in
        let n : length steps ≡ i = omega (arith, length_push steps c) in
        let s : c ≡ d = sym (get_or_push steps c d i n) ∙ get_or_from_slice_get (steps ++ c ∷ []) i d d e in
        let Q : List SatLit → Type 0 = λ x. Follows (clauses ++ steps) assumptions x in
        subst P (sym (take_at steps (c ∷ []) i n)) (subst Q s last)

module _ (clauses steps : List (List SatLit)) (assumptions splits : List SatLit) where
  -- where the splits meet a conflict, the clause of the negated splits follows
  pub branch_follows : IsConflict clauses (assumptions ++ splits) → Follows (clauses ++ steps) assumptions (map negated splits)
  branch_follows h = let P : List SatLit → Type 0 = λ s. IsConflict (clauses ++ steps) (assumptions ++ s) in subst P (sym (map_twice splits)) (conflict_more clauses steps (assumptions ++ splits) h)

  -- a side that is closed forces the negation of its literal
  side_forced : (l : SatLit) → Contains steps (map negated (splits ++ l ∷ [])) → IsForced (clauses ++ steps) (assumptions ++ splits) (negated l)
  side_forced l t = is_unit (negated l) (map negated (splits ++ l ∷ [])) (Contains-append_right clauses steps (map negated (splits ++ l ∷ [])) t) (map_contains (splits ++ l ∷ []) l (Contains-push splits l)) others
    where
      others : (k : SatLit) → Contains (map negated (splits ++ l ∷ [])) k → k ≢ negated l → IsForced (clauses ++ steps) (assumptions ++ splits) (negated k)
      others k s ne =
          let m = contains_map (splits ++ l ∷ []) k s in
          let back : m.0 ≡ negated k = sym (negated_twice m.0) ∙ ap (λ (x : SatLit). negated x) m.2 in
          let P : SatLit → Type 0 = λ x. IsForced (clauses ++ steps) (assumptions ++ splits) x in
          elim (Contains-push_cases splits l m.0 m.1) [
            | inl o ↦ subst P back (is_given m.0 (Contains-append_right assumptions splits m.0 o))
            | inr e ↦ absurd (ne (sym m.2 ∙ ap (λ (x : SatLit). negated x) (sym e)))
          ]

  -- where both sides are closed, the clause of the negated splits follows
  pub sides_follow : (x : ℕ) → Contains steps (map negated (splits ++ record { var = x; positive = true } ∷ [])) → Contains steps (map negated (splits ++ record { var = x; positive = false } ∷ [])) → Follows (clauses ++ steps) assumptions (map negated splits)
  sides_follow x up down =
      let P : List SatLit → Type 0 = λ s. IsConflict (clauses ++ steps) (assumptions ++ s) in
      let l : SatLit = record { var = x; positive = true } in
      let k : SatLit = record { var = x; positive = false } in
      let clash : IsConflict (clauses ++ steps) (assumptions ++ splits) = literal_fails (negated l) (side_forced l up) (side_forced k down) in
      subst P (sym (map_twice splits)) clash
