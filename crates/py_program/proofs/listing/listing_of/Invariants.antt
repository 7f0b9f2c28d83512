use Rattle.py_program.proofs.Listed.{AreListedTo}
use Rattle.py_program.proofs.listing.listing_of.Given as goal

abbrev pub invariant-loop-i : goal.invariant-loop-i
invariant-loop-i l = AreListedTo l.module l.functions.items l.classes.items l.i
