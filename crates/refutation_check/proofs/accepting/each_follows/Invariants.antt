use Rattle.std.proofs.Common.{◌≡◌, ◌++◌, ◌<◌, ℕ, List, Some, take, slice_get}
use Rattle.refutation_check.specs.declared.lit.SatLit.{SatLit}
use Rattle.refutation_check.specs.Propagation.{AreForced}
use Rattle.refutation_check.specs.Refutations.{Follows}
use Rattle.refutation_check.proofs.accepting.each_follows.Given as goal

-- each step up to a place follows, and what is known is forced
pub record HaveFollowed (clauses : List (List SatLit)) (assumptions : List SatLit) (steps : List (List SatLit)) (known : List SatLit) (i : ℕ) : Type 0 where
  pub steps_follow : (k : ℕ) (c : List SatLit) → k < i → slice_get steps k ≡ Some c → Follows (clauses ++ take k steps) assumptions c
  pub known_forced : AreForced (clauses ++ take i steps) assumptions known

abbrev pub invariant-loop-i : goal.invariant-loop-i
invariant-loop-i l = HaveFollowed l.clauses l.assumptions l.steps l.known l.i
