use Rattle.module_functions.proofs.Found.{AreFunctionsTo}
use Rattle.module_functions.proofs.listing.functions.Given as goal

abbrev pub invariant-loop-i : goal.invariant-loop-i
invariant-loop-i l = AreFunctionsTo l.module l.functions.items l.classes l.i
