use Rattle.std.proofs.Common.{◌++◌}
use Rattle.refutation_check.proofs.Cuts.{HasFollowed}
use Rattle.refutation_check.proofs.hints.follow.Given as goal

abbrev pub invariant-loop-place : goal.invariant-loop-place
invariant-loop-place l = HasFollowed (l.clauses ++ l.more) l.initial.slots l.slots
