-- What a search by learning keeps.
use Rattle.std.proofs.Common.{◌≡◌, List, [], ◌∷◌, ◌++◌, length, append_assoc, refl, sym, subst, arith}
use Rattle.refutation_check.specs.declared.lit.SatLit.{SatLit}
use Rattle.refutation_check.specs.Propagation.{IsForced, AreForced}
use Rattle.refutation_check.specs.Refutations.{EachFollows}
use Rattle.refutation_check.proofs.Cuts.{forced_cut, follows_cut, forced_more}
use Rattle.refutation_check.proofs.Lists.{contains_none}
use Rattle.sat_core.specs.Models.{IsRefutationOf}
use Rattle.sat_core.specs.Learning.{IsAppended}
use Rattle.sat_core.proofs.Growth.{follows_push}
use Rattle.sat_core.proofs.Branches.{closed_first}

-- a list without elements
pub empty_from : {X : Type 0} (xs : List X) → length xs ≡ 0 → xs ≡ []
empty_from [] e = refl
empty_from (x ∷ xs) e = absurd (omega arith)

-- the refutation is right, and what is known is forced
pub record IsSound (clauses : List (List SatLit)) (assumptions known : List SatLit) (steps : List (List SatLit)) : Type 0 where
  pub each_follows : EachFollows clauses assumptions steps
  pub known_forced : AreForced (clauses ++ steps) assumptions known

module _ (clauses : List (List SatLit)) (assumptions known more : List SatLit) (old new : List (List SatLit)) (clause : List SatLit) (h : IsSound clauses assumptions known old) where
  -- the refutation is right with one more clause
  pub appended_follows : IsAppended clauses known old new clause → EachFollows clauses assumptions new
  appended_follows a =
      let P : List (List SatLit) → Type 0 = λ r. EachFollows clauses assumptions r in
      subst P (sym a.ends) (follows_push clauses assumptions old clause h.each_follows (follows_cut (clauses ++ old) assumptions known clause h.known_forced a.follows))

  -- and what comes from what is known is forced
  pub appended_sound : AreForced (clauses ++ old) known more → IsAppended clauses known old new clause → IsSound clauses assumptions more new
  appended_sound k a = record {
    each_follows = appended_follows a;
    known_forced = λ l t.
        let P : List (List SatLit) → Type 0 = λ r. IsForced (clauses ++ r) assumptions l in
        let Q : List (List SatLit) → Type 0 = λ r. IsForced r assumptions l in
        let forced : IsForced (clauses ++ old) assumptions l = forced_cut (clauses ++ old) assumptions known h.known_forced l (k l t) in
        subst P (sym a.ends) (subst Q (append_assoc clauses old (clause ∷ [])) (forced_more (clauses ++ old) (clause ∷ []) assumptions l forced));
  }

  -- with the empty clause it is whole
  pub appended_refutes : IsAppended clauses known old new clause → clause ≡ [] → IsRefutationOf clauses assumptions new
  appended_refutes a e =
      let P : List SatLit → Type 0 = λ c. new ≡ old ++ c ∷ [] in
      closed_first clauses assumptions [] new (record { each_follows = appended_follows a; kept = λ c t. absurd (contains_none c t); earlier = old; ends = subst P e a.ends })
