use Rattle.spec_names.specs.Members.{unless_method}
use Rattle.py_tree.specs.Arena.{shown_stmt}
use Rattle.py_profile.proofs.Telling.{TellsTo}
use Rattle.py_profile.proofs.statements.told_of_methods.Given as goal

abbrev pub invariant-loop-s : goal.invariant-loop-s
invariant-loop-s l = TellsTo unless_method (shown_stmt l.module) l.body l.fn.told l.told l.s-index
