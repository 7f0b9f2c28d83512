use Rattle.std.proofs.Common.{◌++◌}
use Rattle.refutation_check.proofs.Closures.{IsReached}
use Rattle.refutation_check.proofs.Falling.{open_count}
use Rattle.refutation_check.proofs.propagation.propagate.Given as goal

abbrev pub invariant-loop-trail : goal.invariant-loop-trail
invariant-loop-trail l = IsReached (l.clauses ++ l.more) l.initial.trail.items l.trail.items

abbrev pub decreases-loop-trail : goal.decreases-loop-trail
decreases-loop-trail l = open_count l.trail.items (l.clauses ++ l.more)
