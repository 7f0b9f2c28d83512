use Rattle.std.proofs.Common.{◌+◌, ◌*◌}
use Rattle.local_names.proofs.Measures.{above, above_branches, above_handlers}
use Rattle.name_scopes.proofs.Walking.{WalkedTo}
use Rattle.statement_uses.proofs.Blocks.{of_block, of_branch, of_branches, of_handler, of_handlers, of_statement}
use Rattle.statement_uses.proofs.statements.+uses.Given as goal

-- A statement stands above its blocks, and a block above its statements.
abbrev pub decreases-told_of_block : goal.decreases-told_of_block
decreases-told_of_block l = above l.body.now * 4

abbrev pub decreases-told_of_branches : goal.decreases-told_of_branches
decreases-told_of_branches l = above_branches l.branches.now * 4 + 1

abbrev pub decreases-told_of_handlers : goal.decreases-told_of_handlers
decreases-told_of_handlers l = above_handlers l.handlers.now * 4 + 1

abbrev pub decreases-told_of_statement : goal.decreases-told_of_statement
decreases-told_of_statement l = l.s.index * 4 + 3

abbrev pub invariant-told_of_block-loop-s : goal.invariant-told_of_block-loop-s
invariant-told_of_block-loop-s l = WalkedTo l.module.names (of_block l.module) (of_statement l.module) l.body l.fn.scope l.fn.told l.scope l.told l.s-index

abbrev pub invariant-told_of_branches-loop-branch : goal.invariant-told_of_branches-loop-branch
invariant-told_of_branches-loop-branch l = WalkedTo l.module.names (of_branches l.module) (of_branch l.module) l.branches l.fn.scope l.fn.told l.scope l.told l.branch-index

abbrev pub invariant-told_of_handlers-loop-handler : goal.invariant-told_of_handlers-loop-handler
invariant-told_of_handlers-loop-handler l = WalkedTo l.module.names (of_handlers l.module) (of_handler l.module) l.handlers l.fn.scope l.fn.told l.scope l.told l.handler-index
