use Rattle.py_tree.specs.Arena.{shown_stmt}
use Rattle.first_promises.specs.Scopes.{parameter_names}
use Rattle.first_forms.proofs.Values.{AreValuesTo}
use Rattle.first_forms.proofs.bodies.values.Given as goal

abbrev pub invariant-loop-s : goal.invariant-loop-s
invariant-loop-s l = AreValuesTo (shown_stmt l.module) (parameter_names l.module l.parameters) l.body l.fn.into l.into l.values.items l.s-index
