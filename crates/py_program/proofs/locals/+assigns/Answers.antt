use Rattle.std.proofs.Common.{◌≤◌, arith, length}
use Rattle.py_tree.proofs.StmtNodes.{stmts_more}
use Rattle.py_tree.specs.Stmts.{AreStmtsBelow}
use Rattle.local_names.proofs.Measures.{above, above_branches, above_handlers, above_least, branch_above, branch_there, branches_least, branches_up, handler_above, handler_there, handlers_least, handlers_up, no_statement, stmt_above, stmt_there}
use Rattle.py_program.proofs.locals.+assigns.Goals as goal

pub block_assigns-statement_assigns-requires : goal.block_assigns-statement_assigns-requires
block_assigns-statement_assigns-requires t c =
    let here = stmt_above c.args.body.now c.loop-s.s-index no_statement c.loop-s-test.true in
    (omega (arith, c.decreases, here), (stmt_there _ c.args.body.now c.loop-s.s-index no_statement c.requires.body c.loop-s-test.true, c.requires.name))

pub branches_assign-block_assigns-requires : goal.branches_assign-block_assigns-requires
branches_assign-block_assigns-requires t c =
    let here : above c.branch-item.result.body.items ≤ above_branches c.args.branches.now = rw c.branch-item.is (branch_above c.args.branches.now c.loop-branch.branch-index _ c.loop-branch-test.true) in
    let there : AreStmtsBelow (length c.args.module.now.stmts) c.branch-item.result.body.items = rw c.branch-item.is (branch_there c.args.module.now _ c.args.branches.now c.loop-branch.branch-index _ c.requires.branches c.loop-branch-test.true) in
    rw c.deref.ensures.value (omega (arith, c.decreases, here), (there, c.requires.name))

pub handlers_assign-block_assigns-requires : goal.handlers_assign-block_assigns-requires
handlers_assign-block_assigns-requires t c =
    let here : above c.handler-item.result.body.items ≤ above_handlers c.args.handlers.now = rw c.handler-item.is (handler_above c.args.handlers.now c.loop-handler.handler-index _ c.loop-handler-test.true) in
    let there : AreStmtsBelow (length c.args.module.now.stmts) c.handler-item.result.body.items = rw c.handler-item.is (handler_there c.args.module.now _ c.args.handlers.now c.loop-handler.handler-index _ c.requires.handlers c.loop-handler-test.true) in
    rw c.deref.ensures.value (omega (arith, c.decreases, here), (there, c.requires.name))

pub statement_assigns-block_assigns-requires : goal.statement_assigns-block_assigns-requires
statement_assigns-block_assigns-requires t c =
    let parts = rw c.in-If.is at c.stmt.ensures.parts in
    let least = above_least c.args.s.index c.in-If.body.items parts.1 in
    rw c.deref.ensures.value (omega (arith, c.decreases, least), (stmts_more _ _ (omega arith) c.in-If.body.items parts.1, c.requires.name))

pub statement_assigns-branches_assign-requires : goal.statement_assigns-branches_assign-requires
statement_assigns-branches_assign-requires t c =
    let parts = rw c.in-If.is at c.stmt.ensures.parts in
    let least = branches_least c.args.module.now c.args.s.index c.in-If.branches.items parts.2 in
    rw c.deref-else-block_assigns.ensures.value (omega (arith, c.decreases, least), (branches_up c.args.module.now _ _ (omega arith) c.in-If.branches.items parts.2, c.requires.name))

pub statement_assigns-block_assigns-requires-else-branches_assign : goal.statement_assigns-block_assigns-requires-else-branches_assign
statement_assigns-block_assigns-requires-else-branches_assign t c =
    let parts = rw c.in-If.is at c.stmt.ensures.parts in
    let least = above_least c.args.s.index c.in-If.otherwise.items parts.3 in
    rw c.deref-else-branches_assign.ensures.value (omega (arith, c.decreases, least), (stmts_more _ _ (omega arith) c.in-If.otherwise.items parts.3, c.requires.name))

pub statement_assigns-block_assigns-requires-in-While : goal.statement_assigns-block_assigns-requires-in-While
statement_assigns-block_assigns-requires-in-While t c =
    let parts = rw c.in-While.is at c.stmt.ensures.parts in
    let least = above_least c.args.s.index c.in-While.body.items parts.1 in
    rw c.deref-in-While.ensures.value (omega (arith, c.decreases, least), (stmts_more _ _ (omega arith) c.in-While.body.items parts.1, c.requires.name))

pub statement_assigns-block_assigns-requires-else-block_assigns-2 : goal.statement_assigns-block_assigns-requires-else-block_assigns-2
statement_assigns-block_assigns-requires-else-block_assigns-2 t c =
    let parts = rw c.in-While.is at c.stmt.ensures.parts in
    let least = above_least c.args.s.index c.in-While.otherwise.items parts.2 in
    rw c.deref-else-block_assigns-2.ensures.value (omega (arith, c.decreases, least), (stmts_more _ _ (omega arith) c.in-While.otherwise.items parts.2, c.requires.name))

pub statement_assigns-block_assigns-requires-else-is_same : goal.statement_assigns-block_assigns-requires-else-is_same
statement_assigns-block_assigns-requires-else-is_same t c =
    let parts = rw c.in-For.is at c.stmt.ensures.parts in
    let least = above_least c.args.s.index c.in-For.body.items parts.2 in
    rw c.deref-else-is_same.ensures.value (omega (arith, c.decreases, least), (stmts_more _ _ (omega arith) c.in-For.body.items parts.2, c.requires.name))

pub statement_assigns-block_assigns-requires-else-block_assigns-3 : goal.statement_assigns-block_assigns-requires-else-block_assigns-3
statement_assigns-block_assigns-requires-else-block_assigns-3 t c =
    let parts = rw c.in-For.is at c.stmt.ensures.parts in
    let least = above_least c.args.s.index c.in-For.otherwise.items parts.3 in
    rw c.deref-else-block_assigns-3.ensures.value (omega (arith, c.decreases, least), (stmts_more _ _ (omega arith) c.in-For.otherwise.items parts.3, c.requires.name))

pub statement_assigns-block_assigns-requires-in-Try : goal.statement_assigns-block_assigns-requires-in-Try
statement_assigns-block_assigns-requires-in-Try t c =
    let parts = rw c.in-Try.is at c.stmt.ensures.parts in
    let least = above_least c.args.s.index c.in-Try.body.items parts.0 in
    rw c.deref-in-Try.ensures.value (omega (arith, c.decreases, least), (stmts_more _ _ (omega arith) c.in-Try.body.items parts.0, c.requires.name))

pub statement_assigns-handlers_assign-requires : goal.statement_assigns-handlers_assign-requires
statement_assigns-handlers_assign-requires t c =
    let parts = rw c.in-Try.is at c.stmt.ensures.parts in
    let least = handlers_least c.args.module.now c.args.s.index c.in-Try.handlers.items parts.1 in
    rw c.deref-else-block_assigns-4.ensures.value (omega (arith, c.decreases, least), (handlers_up c.args.module.now _ _ (omega arith) c.in-Try.handlers.items parts.1, c.requires.name))

pub statement_assigns-block_assigns-requires-else-handlers_assign : goal.statement_assigns-block_assigns-requires-else-handlers_assign
statement_assigns-block_assigns-requires-else-handlers_assign t c =
    let parts = rw c.in-Try.is at c.stmt.ensures.parts in
    let least = above_least c.args.s.index c.in-Try.otherwise.items parts.2 in
    rw c.deref-else-handlers_assign.ensures.value (omega (arith, c.decreases, least), (stmts_more _ _ (omega arith) c.in-Try.otherwise.items parts.2, c.requires.name))
