use Rattle.module_classes.proofs.Found.{AreClassesTo}
use Rattle.module_classes.proofs.listing.classes.Given as goal

abbrev pub invariant-loop-i : goal.invariant-loop-i
invariant-loop-i l = AreClassesTo l.module l.classes.items l.i
