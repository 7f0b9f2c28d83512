use Rattle.sat_core.proofs.Lessons.{IsSound}
use Rattle.sat_core.proofs.learning.learn_with.Given as goal

abbrev pub invariant-loop : goal.invariant-loop
invariant-loop l = IsSound l.clauses l.assumptions l.known l.refutation
