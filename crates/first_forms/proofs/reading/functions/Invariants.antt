use Rattle.first_forms.proofs.Listing.{AreReadTo}
use Rattle.first_forms.proofs.reading.functions.Given as goal

abbrev pub invariant-loop-i : goal.invariant-loop-i
invariant-loop-i l = AreReadTo l.module l.contracts l.functions l.number l.i
