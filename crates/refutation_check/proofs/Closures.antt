-- A trail on the way through unit propagation.
use Rattle.std.proofs.Common.{◌≡◌, true, false, not, List, [], ◌∷◌, ◌++◌, sym, ap, subst, ◌∙◌, inl, inr, Contains}
use Rattle.std.proofs.lemmas.Bool.{not-true, not-false}
use Rattle.std.proofs.lemmas.List.Elements.{Contains-append_left, Contains-push_cases}
use Rattle.refutation_check.specs.declared.lit.SatLit.{SatLit}
use Rattle.refutation_check.specs.declared.propagation.Due.TheVariants as due
use Rattle.refutation_check.specs.Truth.{negated, has}
use Rattle.refutation_check.specs.Propagation.{IsForced, is_given, is_unit, IsConflict, clause_fails, literal_fails}
use Rattle.refutation_check.specs.Dues.{is_consistent, due_in}
use Rattle.refutation_check.proofs.Lists.{all_told, not_all}
use Rattle.refutation_check.proofs.Literals.{negated_twice, negated_apart, has_told, has_not}
use Rattle.refutation_check.proofs.Looks.{forced_told, conflict_told, nothing_told, forced_in, conflict_in, nothing_in}

-- a trail has the given literals, each of it is forced, and no literal stands beside its negation
pub record IsReached (clauses : List (List SatLit)) (given trail : List SatLit) : Type 0 where
  pub has_given : (l : SatLit) → Contains given l → Contains trail l
  pub all_forced : (l : SatLit) → Contains trail l → IsForced clauses given l
  pub consistent : (l : SatLit) → Contains trail l → Contains trail (negated l) → ⊥

module _ (clauses : List (List SatLit)) (given : List SatLit) where
  -- the given literals are such a trail where none stands beside its negation
  pub reached_first : is_consistent given ≡ true → IsReached clauses given given
  reached_first h = record {
    has_given = λ l c. c;
    all_forced = λ l c. is_given l c;
    consistent = λ l c d. has_not given (negated l) (not-true (has given (negated l)) (all_told (λ k. not (has given (negated k))) given l h c)) d;
  }

  -- one more literal
  pub reached_next : (trail : List SatLit) (l : SatLit) → IsReached clauses given trail → due_in trail clauses ≡ due.Forced l → IsReached clauses given (trail ++ l ∷ [])
  reached_next trail l r e =
      let d = forced_in trail clauses l e in
      let u = forced_told trail d.clause l d.gives in
      let forced : IsForced clauses given l = is_unit l d.clause d.there u.there (λ k t ne. r.all_forced (negated k) (u.others k t ne)) in
      let F : SatLit → Type 0 = λ x. IsForced clauses given x in
      let T : SatLit → Type 0 = λ x. Contains trail x in
      record {
        has_given = λ k t. Contains-append_left trail (l ∷ []) k (r.has_given k t);
        all_forced = λ k t. elim (Contains-push_cases trail l k t) [ inl o ↦ r.all_forced k o | inr s ↦ subst F s forced ];
        consistent = λ k t n. elim (Contains-push_cases trail l k t) [
          | inl o ↦ elim (Contains-push_cases trail l (negated k) n) [ inl p ↦ r.consistent k o p | inr s ↦ has_not trail (negated l) u.not_false (subst T (sym (ap (λ (x : SatLit). negated x) s ∙ negated_twice k)) o) ]
          | inr s ↦ elim (Contains-push_cases trail l (negated k) n) [ inl p ↦ has_not trail (negated l) u.not_false (subst T (ap (λ (x : SatLit). negated x) (sym s)) p) | inr q ↦ negated_apart k (sym s ∙ q) ]
        ];
      }

  -- a clause that is false on a trail is a conflict
  pub reached_conflict : (trail : List SatLit) → IsReached clauses given trail → due_in trail clauses ≡ due.Conflict → IsConflict clauses given
  reached_conflict trail r e =
      let d = conflict_in trail clauses e in
      clause_fails d.clause d.there (λ k t. r.all_forced (negated k) (conflict_told trail d.clause d.gives k t))

  -- a trail that gives nothing more has every forced literal
  pub forced_there : (trail : List SatLit) → IsReached clauses given trail → due_in trail clauses ≡ due.Nothing → (l : SatLit) → IsForced clauses given l → Contains trail l
  forced_there trail r e _ (is_given l t) = r.has_given l t
  forced_there trail r e _ (is_unit l c t u others) = (nothing_told trail c (nothing_in trail clauses e c t)).unit_there l u (λ k s ne. forced_there trail r e (negated k) (others k s ne))

  -- and then there is no conflict
  pub reached_rest : (trail : List SatLit) → IsReached clauses given trail → due_in trail clauses ≡ due.Nothing → IsConflict clauses given → ⊥
  reached_rest trail r e (clause_fails c t fails) = (nothing_told trail c (nothing_in trail clauses e c t)).not_false (λ k s. forced_there trail r e (negated k) (fails k s))
  reached_rest trail r e (literal_fails l f g) = r.consistent l (forced_there trail r e l f) (forced_there trail r e (negated l) g)

  -- given literals that hold a literal and its negation are a conflict
  pub given_clash : is_consistent given ≡ false → IsConflict clauses given
  given_clash f =
      let n = not_all (λ k. not (has given (negated k))) given f in
      literal_fails n.0 (is_given n.0 n.1) (is_given (negated n.0) (has_told given (negated n.0) (not-false (has given (negated n.0)) n.2)))
