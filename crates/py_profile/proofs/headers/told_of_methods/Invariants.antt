use Rattle.spec_names.specs.Headers.{method_forms}
use Rattle.py_tree.specs.Arena.{shown_stmt}
use Rattle.py_profile.proofs.Telling.{TellsTo}
use Rattle.py_profile.proofs.headers.told_of_methods.Given as goal

abbrev pub invariant-loop-s : goal.invariant-loop-s
invariant-loop-s l = TellsTo method_forms (shown_stmt l.module) l.body l.fn.told l.told l.s-index
