use Rattle.spec_names.specs.Headers.{member_forms}
use Rattle.py_tree.specs.Arena.{shown_stmt}
use Rattle.py_profile.proofs.Telling.{TellsTo}
use Rattle.py_profile.proofs.headers.told_of_headers.Given as goal

abbrev pub invariant-loop-i : goal.invariant-loop-i
invariant-loop-i l = TellsTo member_forms (shown_stmt l.module) l.module.tops l.fn.told l.told l.i
