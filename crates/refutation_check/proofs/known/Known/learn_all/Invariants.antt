use Rattle.std.proofs.Common.{◌++◌}
use Rattle.refutation_check.specs.Propagation.{AreForced}
use Rattle.refutation_check.proofs.known.Known.learn_all.Given as goal

abbrev pub invariant-loop-place : goal.invariant-loop-place
invariant-loop-place l = AreForced (l.clauses ++ l.more) l.initial.self l.self
