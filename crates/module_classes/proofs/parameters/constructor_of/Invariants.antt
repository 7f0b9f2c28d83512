use Rattle.module_classes.proofs.Found.{IsConstructorFrom}
use Rattle.module_classes.proofs.parameters.constructor_of.Given as goal

abbrev pub invariant-loop-s : goal.invariant-loop-s
invariant-loop-s l = IsConstructorFrom l.module l.body l.s-index
