use Rattle.std.proofs.Common.{◌+◌, ◌*◌}
use Rattle.py_tree.specs.Arena.{shown_stmt}
use Rattle.local_names.proofs.Adding.{AddedTo, names_by_branch, names_by_handler, names_by_stmt, names_in_block, names_in_branches, names_in_handlers}
use Rattle.local_names.proofs.Measures.{above, above_branches, above_handlers}
use Rattle.local_names.proofs.assigned.+assigned.Given as goal

-- A statement stands above its blocks, and a block above its statements.
abbrev pub decreases-add_assigned : goal.decreases-add_assigned
decreases-add_assigned l = above l.body.now * 4

abbrev pub decreases-add_branches : goal.decreases-add_branches
decreases-add_branches l = above_branches l.branches.now * 4 + 1

abbrev pub decreases-add_handlers : goal.decreases-add_handlers
decreases-add_handlers l = above_handlers l.handlers.now * 4 + 1

abbrev pub decreases-add_statement : goal.decreases-add_statement
decreases-add_statement l = l.s.index * 4 + 3

abbrev pub invariant-add_assigned-loop-s : goal.invariant-add_assigned-loop-s
invariant-add_assigned-loop-s l = AddedTo (names_in_block l.module (shown_stmt l.module)) (names_by_stmt l.module (shown_stmt l.module)) l.module.names l.body l.fn.names l.names l.s-index

abbrev pub invariant-add_branches-loop-branch : goal.invariant-add_branches-loop-branch
invariant-add_branches-loop-branch l = AddedTo (names_in_branches l.module (shown_stmt l.module)) (names_by_branch l.module (shown_stmt l.module)) l.module.names l.branches l.fn.names l.names l.branch-index

abbrev pub invariant-add_handlers-loop-handler : goal.invariant-add_handlers-loop-handler
invariant-add_handlers-loop-handler l = AddedTo (names_in_handlers l.module (shown_stmt l.module)) (names_by_handler l.module (shown_stmt l.module)) l.module.names l.handlers l.fn.names l.names l.handler-index
