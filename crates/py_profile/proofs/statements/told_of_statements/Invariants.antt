use Rattle.spec_names.specs.Members.{unless_member}
use Rattle.py_tree.specs.Arena.{shown_stmt}
use Rattle.py_profile.proofs.Telling.{TellsTo}
use Rattle.py_profile.proofs.statements.told_of_statements.Given as goal

abbrev pub invariant-loop-i : goal.invariant-loop-i
invariant-loop-i l = TellsTo unless_member (shown_stmt l.module) l.module.tops l.fn.told l.told l.i
