use Rattle.std.proofs.Common.{◌+◌, ◌*◌}
use Rattle.first_promises.proofs.expressions.+copying.Given as goal

-- The height that is left falls at each node, and a node ranks above its operands.
abbrev pub decreases-copy : goal.decreases-copy
decreases-copy l = l.room.height * 2 + 1

abbrev pub decreases-copy_operands : goal.decreases-copy_operands
decreases-copy_operands l = l.room.height * 2
