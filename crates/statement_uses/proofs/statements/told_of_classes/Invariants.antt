use Rattle.std.proofs.Common.{[], slice_index_or}
use Rattle.name_scopes.proofs.Walking.{WalkedTo}
use Rattle.statement_uses.proofs.Blocks.{of_class, of_classes}
use Rattle.statement_uses.proofs.statements.told_of_classes.Given as goal

abbrev pub invariant-loop-i : goal.invariant-loop-i
invariant-loop-i l = WalkedTo l.module.names (of_classes l.module.names l.line) (of_class l.module.names l.line) (slice_index_or l.module.lists l.classes.index []) l.scope l.fn.told l.scope l.told l.i
