use Rattle.std.proofs.Common.{◌≡◌, drop}
use Rattle.refutation_check.specs.Dues.{due_in}
use Rattle.refutation_check.proofs.propagation.due_in.Given as goal

abbrev pub invariant-loop-clause : goal.invariant-loop-clause
invariant-loop-clause l = due_in l.trail l.clauses ≡ due_in l.trail (drop l.clause-index l.clauses)
