use Rattle.module_functions.proofs.Found.{AreMethodsTo}
use Rattle.module_functions.proofs.listing.add_methods.Given as goal

abbrev pub invariant-loop-s : goal.invariant-loop-s
invariant-loop-s l = AreMethodsTo l.module l.body l.class l.fn.into.items l.into.items l.s-index
