use Rattle.refutation_check.proofs.Cuts.{HasDenied}
use Rattle.refutation_check.proofs.hints.deny.Given as goal

abbrev pub invariant-loop-l : goal.invariant-loop-l
invariant-loop-l l = HasDenied l.initial.slots l.slots l.clause
