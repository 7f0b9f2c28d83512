use Rattle.std.proofs.Common.{◌≡◌, [], length, take, slice_index_or}
use Rattle.py_tree.specs.Names.{AreNamesBelow}
use Rattle.py_profile.proofs.names.listed.Given as goal

abbrev pub invariant-loop-i : goal.invariant-loop-i
invariant-loop-i l = AreNamesBelow (length l.module.names) l.names.items × (l.names.items ≡ take l.i (slice_index_or l.module.lists l.list.index []))
