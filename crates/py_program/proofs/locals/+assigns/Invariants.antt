use Rattle.std.proofs.Common.{◌+◌, ◌*◌}
use Rattle.py_tree.specs.Arena.{shown_stmt}
use Rattle.py_tree.specs.Names.{text_of}
use Rattle.local_names.proofs.Adding.{names_by_branch, names_by_handler, names_by_stmt, names_in_block, names_in_branches, names_in_handlers}
use Rattle.local_names.proofs.Measures.{above, above_branches, above_handlers}
use Rattle.py_program.proofs.Among.{AmongFrom}
use Rattle.py_program.proofs.locals.+assigns.Given as goal

-- A statement stands above its blocks, and a block above its statements.
abbrev pub decreases-block_assigns : goal.decreases-block_assigns
decreases-block_assigns l = above l.body.now * 4

abbrev pub decreases-branches_assign : goal.decreases-branches_assign
decreases-branches_assign l = above_branches l.branches.now * 4 + 1

abbrev pub decreases-handlers_assign : goal.decreases-handlers_assign
decreases-handlers_assign l = above_handlers l.handlers.now * 4 + 1

abbrev pub decreases-statement_assigns : goal.decreases-statement_assigns
decreases-statement_assigns l = l.s.index * 4 + 3

abbrev pub invariant-block_assigns-loop-s : goal.invariant-block_assigns-loop-s
invariant-block_assigns-loop-s l = AmongFrom (names_in_block l.module (shown_stmt l.module)) (names_by_stmt l.module (shown_stmt l.module)) (text_of l.module.names l.name) l.body l.s-index

abbrev pub invariant-branches_assign-loop-branch : goal.invariant-branches_assign-loop-branch
invariant-branches_assign-loop-branch l = AmongFrom (names_in_branches l.module (shown_stmt l.module)) (names_by_branch l.module (shown_stmt l.module)) (text_of l.module.names l.name) l.branches l.branch-index

abbrev pub invariant-handlers_assign-loop-handler : goal.invariant-handlers_assign-loop-handler
invariant-handlers_assign-loop-handler l = AmongFrom (names_in_handlers l.module (shown_stmt l.module)) (names_by_handler l.module (shown_stmt l.module)) (text_of l.module.names l.name) l.handlers l.handler-index
