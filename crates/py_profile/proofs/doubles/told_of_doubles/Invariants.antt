use Rattle.std.proofs.Common.{◌≡◌, length}
use Rattle.spec_names.specs.Defined.{doubles_behind}
use Rattle.py_tree.specs.Arena.{shown_stmt}
use Rattle.py_profile.proofs.Walking.{member_here, members_of, WalkedTo}
use Rattle.py_profile.proofs.doubles.told_of_doubles.Given as goal

abbrev pub invariant-loop-i : goal.invariant-loop-i
invariant-loop-i l = WalkedTo doubles_behind member_here members_of l.module.names (shown_stmt l.module) l.module.tops l.fn.told l.told l.members l.i × (length l.members ≡ length l.module.names) × (length l.methods_so_far ≡ length l.module.names)
