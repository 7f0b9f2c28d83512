-- What a refutation has to meet.
use Rattle.std.specs.Prelude.{◌≡◌, ℕ, ◌-◌, List, [], ◌++◌, length, take, map, slice_get, Some}
use Rattle.refutation_check.specs.declared.lit.SatLit.{SatLit}
use Rattle.refutation_check.specs.Truth.{negated}
use Rattle.refutation_check.specs.Propagation.{IsConflict}

-- a clause follows where propagation from its negated literals meets a conflict
abbrev pub Follows : List (List SatLit) → List SatLit → List SatLit → Type 0
Follows clauses assumptions c = IsConflict clauses (assumptions ++ map negated c)

-- each clause of a refutation follows from the clauses and the earlier ones of the refutation
abbrev pub EachFollows : List (List SatLit) → List SatLit → List (List SatLit) → Type 0
EachFollows clauses assumptions refutation = (i : ℕ) (c : List SatLit) → slice_get refutation i ≡ Some c → Follows (clauses ++ take i refutation) assumptions c

-- a refutation is accepted where it is not empty, its last clause is the empty one, and each clause of it follows
pub record IsAccepted (clauses : List (List SatLit)) (assumptions : List SatLit) (refutation : List (List SatLit)) : Type 0 where
  pub ends_empty : slice_get refutation (length refutation - 1) ≡ Some []
  pub each_follows : EachFollows clauses assumptions refutation
