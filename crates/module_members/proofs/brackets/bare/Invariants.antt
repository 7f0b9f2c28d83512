use Rattle.std.proofs.Common.{◌≡◌, ◌≤◌}
use Rattle.spec_names.specs.Members.{bare}
use Rattle.py_tree.specs.Arena.{shown}
use Rattle.module_members.proofs.brackets.bare.Given as goal

abbrev pub invariant-loop-inner : goal.invariant-loop-inner
invariant-loop-inner l = (bare (shown l.module l.e.index) ≡ bare (shown l.module l.fn.e.index)) × (l.e.index ≤ l.fn.e.index)

abbrev pub decreases-loop-inner : goal.decreases-loop-inner
decreases-loop-inner l = l.e.index
