use Rattle.checked_functions.proofs.Owners.{AreCheckedTo}
use Rattle.checked_functions.proofs.checking.checked.Given as goal

abbrev pub invariant-loop-i : goal.invariant-loop-i
invariant-loop-i l = AreCheckedTo l.contracts l.functions l.checked.items l.i
