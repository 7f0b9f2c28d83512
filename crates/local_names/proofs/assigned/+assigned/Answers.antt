use Rattle.std.proofs.Common.{◌≤◌, arith, length}
use Rattle.py_tree.proofs.StmtNodes.{stmts_more}
use Rattle.py_tree.specs.Arena.{shown_stmt}
use Rattle.py_tree.specs.Stmts.{AreStmtsBelow}
use Rattle.local_names.proofs.Adding.{added_more, adds_then, block_step, branches_step, handlers_step, names_by_branch, names_by_handler, names_by_stmt, names_in_block, names_in_branches, names_in_handlers}
use Rattle.local_names.proofs.Measures.{above, above_branches, above_handlers, above_least, branch_above, branch_there, branches_least, branches_up, handler_above, handler_there, handlers_least, handlers_up, no_statement, stmt_above, stmt_there}
use Rattle.local_names.proofs.assigned.+assigned.Goals as goal

pub add_assigned-add_statement-requires : goal.add_assigned-add_statement-requires
add_assigned-add_statement-requires t c =
    let here = stmt_above c.args.body.now c.loop-s.s-index no_statement c.loop-s-test.true in
    (omega (arith, c.decreases, here), (stmt_there _ c.args.body.now c.loop-s.s-index no_statement c.requires.body c.loop-s-test.true, c.loop-s.invariant.adds.size))

pub add_assigned-loop-s-preserved : goal.add_assigned-loop-s-preserved
add_assigned-loop-s-preserved t c =
    let m = c.args.module.now in
    added_more (names_in_block m (shown_stmt m)) (names_by_stmt m (shown_stmt m)) m.names c.args.body.now c.args.names.now c.loop-s.names c.loop-s.s-index c.loop-s.invariant (block_step m (shown_stmt m)) c.add_statement.new.names no_statement c.loop-s-test.true c.add_statement.ensures

pub add_branches-add_assigned-requires : goal.add_branches-add_assigned-requires
add_branches-add_assigned-requires t c =
    let here : above c.branch-item.result.body.items ≤ above_branches c.args.branches.now = rw c.branch-item.is (branch_above c.args.branches.now c.loop-branch.branch-index _ c.loop-branch-test.true) in
    let there : AreStmtsBelow (length c.args.module.now.stmts) c.branch-item.result.body.items = rw c.branch-item.is (branch_there c.args.module.now _ c.args.branches.now c.loop-branch.branch-index _ c.requires.branches c.loop-branch-test.true) in
    rw c.deref.ensures.value (omega (arith, c.decreases, here), (there, c.loop-branch.invariant.adds.size))

pub add_branches-loop-branch-preserved : goal.add_branches-loop-branch-preserved
add_branches-loop-branch-preserved t c =
    let m = c.args.module.now in
    let added = rw (c.deref.ensures.value, c.branch-item.is) at c.add_assigned.ensures in
    added_more (names_in_branches m (shown_stmt m)) (names_by_branch m (shown_stmt m)) m.names c.args.branches.now c.args.names.now c.loop-branch.names c.loop-branch.branch-index c.loop-branch.invariant (branches_step m (shown_stmt m)) c.add_assigned.new.names _ c.loop-branch-test.true added

pub add_handlers-add_assigned-requires : goal.add_handlers-add_assigned-requires
add_handlers-add_assigned-requires t c =
    let here : above c.handler-item.result.body.items ≤ above_handlers c.args.handlers.now = rw c.handler-item.is (handler_above c.args.handlers.now c.loop-handler.handler-index _ c.loop-handler-test.true) in
    let there : AreStmtsBelow (length c.args.module.now.stmts) c.handler-item.result.body.items = rw c.handler-item.is (handler_there c.args.module.now _ c.args.handlers.now c.loop-handler.handler-index _ c.requires.handlers c.loop-handler-test.true) in
    rw c.deref.ensures.value (omega (arith, c.decreases, here), (there, c.loop-handler.invariant.adds.size))

pub add_handlers-loop-handler-preserved : goal.add_handlers-loop-handler-preserved
add_handlers-loop-handler-preserved t c =
    let m = c.args.module.now in
    let added = rw (c.deref.ensures.value, c.handler-item.is) at c.add_assigned.ensures in
    added_more (names_in_handlers m (shown_stmt m)) (names_by_handler m (shown_stmt m)) m.names c.args.handlers.now c.args.names.now c.loop-handler.names c.loop-handler.handler-index c.loop-handler.invariant (handlers_step m (shown_stmt m)) c.add_assigned.new.names _ c.loop-handler-test.true added

pub add_statement-add_assigned-requires : goal.add_statement-add_assigned-requires
add_statement-add_assigned-requires t c =
    let parts = rw c.in-If.is at c.stmt.ensures.parts in
    let least = above_least c.args.s.index c.in-If.body.items parts.1 in
    rw c.deref.ensures.value (omega (arith, c.decreases, least), (stmts_more _ _ (omega arith) c.in-If.body.items parts.1, c.requires.size))

pub add_statement-add_branches-requires : goal.add_statement-add_branches-requires
add_statement-add_branches-requires t c =
    let parts = rw c.in-If.is at c.stmt.ensures.parts in
    let least = branches_least c.args.module.now c.args.s.index c.in-If.branches.items parts.2 in
    rw c.deref-in-If.ensures.value (omega (arith, c.decreases, least), (branches_up c.args.module.now _ _ (omega arith) c.in-If.branches.items parts.2, c.add_assigned.ensures.size))

pub add_statement-add_assigned-requires-in-If : goal.add_statement-add_assigned-requires-in-If
add_statement-add_assigned-requires-in-If t c =
    let parts = rw c.in-If.is at c.stmt.ensures.parts in
    let least = above_least c.args.s.index c.in-If.otherwise.items parts.3 in
    rw c.deref-in-If-2.ensures.value (omega (arith, c.decreases, least), (stmts_more _ _ (omega arith) c.in-If.otherwise.items parts.3, c.add_branches.ensures.size))

pub add_statement-add_assigned-requires-in-While : goal.add_statement-add_assigned-requires-in-While
add_statement-add_assigned-requires-in-While t c =
    let parts = rw c.in-While.is at c.stmt.ensures.parts in
    let least = above_least c.args.s.index c.in-While.body.items parts.1 in
    rw c.deref-in-While.ensures.value (omega (arith, c.decreases, least), (stmts_more _ _ (omega arith) c.in-While.body.items parts.1, c.requires.size))

pub add_statement-add_assigned-requires-in-While-2 : goal.add_statement-add_assigned-requires-in-While-2
add_statement-add_assigned-requires-in-While-2 t c =
    let parts = rw c.in-While.is at c.stmt.ensures.parts in
    let least = above_least c.args.s.index c.in-While.otherwise.items parts.2 in
    rw c.deref-in-While-2.ensures.value (omega (arith, c.decreases, least), (stmts_more _ _ (omega arith) c.in-While.otherwise.items parts.2, c.add_assigned-in-While.ensures.size))

pub add_statement-add_assigned-requires-in-For : goal.add_statement-add_assigned-requires-in-For
add_statement-add_assigned-requires-in-For t c =
    let parts = rw c.in-For.is at c.stmt.ensures.parts in
    let least = above_least c.args.s.index c.in-For.body.items parts.2 in
    rw c.deref-in-For.ensures.value (omega (arith, c.decreases, least), (stmts_more _ _ (omega arith) c.in-For.body.items parts.2, c.add_name.ensures.size))

pub add_statement-add_assigned-requires-in-For-2 : goal.add_statement-add_assigned-requires-in-For-2
add_statement-add_assigned-requires-in-For-2 t c =
    let parts = rw c.in-For.is at c.stmt.ensures.parts in
    let least = above_least c.args.s.index c.in-For.otherwise.items parts.3 in
    rw c.deref-in-For-2.ensures.value (omega (arith, c.decreases, least), (stmts_more _ _ (omega arith) c.in-For.otherwise.items parts.3, c.add_assigned-in-For.ensures.size))

pub add_statement-add_assigned-requires-in-Try : goal.add_statement-add_assigned-requires-in-Try
add_statement-add_assigned-requires-in-Try t c =
    let parts = rw c.in-Try.is at c.stmt.ensures.parts in
    let least = above_least c.args.s.index c.in-Try.body.items parts.0 in
    rw c.deref-in-Try.ensures.value (omega (arith, c.decreases, least), (stmts_more _ _ (omega arith) c.in-Try.body.items parts.0, c.requires.size))

pub add_statement-add_handlers-requires : goal.add_statement-add_handlers-requires
add_statement-add_handlers-requires t c =
    let parts = rw c.in-Try.is at c.stmt.ensures.parts in
    let least = handlers_least c.args.module.now c.args.s.index c.in-Try.handlers.items parts.1 in
    rw c.deref-in-Try-2.ensures.value (omega (arith, c.decreases, least), (handlers_up c.args.module.now _ _ (omega arith) c.in-Try.handlers.items parts.1, c.add_assigned-in-Try.ensures.size))

pub add_statement-add_assigned-requires-in-Try-2 : goal.add_statement-add_assigned-requires-in-Try-2
add_statement-add_assigned-requires-in-Try-2 t c =
    let parts = rw c.in-Try.is at c.stmt.ensures.parts in
    let least = above_least c.args.s.index c.in-Try.otherwise.items parts.2 in
    rw c.deref-in-Try-3.ensures.value (omega (arith, c.decreases, least), (stmts_more _ _ (omega arith) c.in-Try.otherwise.items parts.2, c.add_handlers.ensures.size))

pub add_statement-returns-in-If : goal.add_statement-returns-in-If
add_statement-returns-in-If t c =
    let names = c.args.module.now.names in
    let body = rw c.deref.ensures.value at c.add_assigned.ensures in
    let branches = rw c.deref-in-If.ensures.value at c.add_branches.ensures in
    let otherwise = rw c.deref-in-If-2.ensures.value at c.add_assigned-in-If.ensures in
    rw (c.stmt.ensures.tree, c.in-If.is) (adds_then names _ _ _ _ _ (adds_then names _ _ _ _ _ body branches) otherwise)

pub add_statement-returns-in-While : goal.add_statement-returns-in-While
add_statement-returns-in-While t c =
    let names = c.args.module.now.names in
    let body = rw c.deref-in-While.ensures.value at c.add_assigned-in-While.ensures in
    let otherwise = rw c.deref-in-While-2.ensures.value at c.add_assigned-in-While-2.ensures in
    rw (c.stmt.ensures.tree, c.in-While.is) (adds_then names _ _ _ _ _ body otherwise)

pub add_statement-returns-in-For : goal.add_statement-returns-in-For
add_statement-returns-in-For t c =
    let names = c.args.module.now.names in
    let body = rw c.deref-in-For.ensures.value at c.add_assigned-in-For.ensures in
    let otherwise = rw c.deref-in-For-2.ensures.value at c.add_assigned-in-For-2.ensures in
    rw (c.stmt.ensures.tree, c.in-For.is) (adds_then names _ _ _ _ _ (adds_then names _ _ _ _ _ c.add_name.ensures body) otherwise)

pub add_statement-returns-in-Try : goal.add_statement-returns-in-Try
add_statement-returns-in-Try t c =
    let names = c.args.module.now.names in
    let body = rw c.deref-in-Try.ensures.value at c.add_assigned-in-Try.ensures in
    let handlers = rw c.deref-in-Try-2.ensures.value at c.add_handlers.ensures in
    let otherwise = rw c.deref-in-Try-3.ensures.value at c.add_assigned-in-Try-2.ensures in
    rw (c.stmt.ensures.tree, c.in-Try.is) (adds_then names _ _ _ _ _ (adds_then names _ _ _ _ _ body handlers) otherwise)
