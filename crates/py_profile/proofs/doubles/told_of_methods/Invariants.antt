use Rattle.std.proofs.Common.{◌≡◌, length}
use Rattle.spec_names.specs.Defined.{method_doubles}
use Rattle.py_tree.specs.Arena.{shown_stmt}
use Rattle.py_profile.proofs.Walking.{method_here, methods_of, WalkedTo}
use Rattle.py_profile.proofs.doubles.told_of_methods.Given as goal

abbrev pub invariant-loop-s : goal.invariant-loop-s
invariant-loop-s l = WalkedTo method_doubles method_here methods_of l.module.names (shown_stmt l.module) l.body l.fn.told l.told l.earlier l.s-index × (length l.earlier ≡ length l.module.names)
