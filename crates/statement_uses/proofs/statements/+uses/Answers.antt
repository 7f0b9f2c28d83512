use Rattle.std.proofs.Common.{◌≤◌, length, arith}
use Rattle.py_tree.proofs.StmtNodes.{stmts_more}
use Rattle.py_tree.specs.Arena.{shown_stmt}
use Rattle.py_tree.specs.Stmts.{AreStmtsBelow, texts_of}
use Rattle.spec_uses.specs.Meanings.{Scope}
use Rattle.spec_uses.specs.Statements.{uses_in_classes}
use Rattle.name_scopes.specs.Showing.{Shows}
use Rattle.local_names.proofs.Measures.{above, above_branches, above_handlers, above_least, branch_above, branch_there, branches_least, branches_up, handler_above, handler_there, handlers_least, handlers_up, no_statement, stmt_above, stmt_there}
use Rattle.name_scopes.proofs.Walking.{sized_on, walked_more, walked_none, walks_as, walks_seen, walks_then}
use Rattle.statement_uses.proofs.Blocks.{block_step, branches_step, branch_condition_there, handler_classes_there, handlers_step, line_is, of_block, of_branch, of_branches, of_handler, of_handlers, of_statement}
use Rattle.statement_uses.proofs.Telling.{private_told}
use Rattle.statement_uses.proofs.statements.+uses.Goals as goal

pub told_of_block-loop-s-init : goal.told_of_block-loop-s-init
told_of_block-loop-s-init t c =
    let m = c.args.module.now in
    walked_none m.names (of_block m) (of_statement m) c.args.body.now c.args.scope.now c.args.told

pub told_of_block-told_of_statement-told-requires : goal.told_of_block-told_of_statement-told-requires
told_of_block-told_of_statement-told-requires t c =
    let here = stmt_above c.args.body.now c.loop-s.s-index no_statement c.loop-s-test.true in
    let there = stmt_there _ c.args.body.now c.loop-s.s-index no_statement c.requires.body c.loop-s-test.true in
    (omega (arith, c.decreases, here), (there, sized_on c.args.module.now.names _ _ c.loop-s.invariant.walks.same c.requires.sized))

pub told_of_block-loop-s-preserved : goal.told_of_block-loop-s-preserved
told_of_block-loop-s-preserved t c =
    let m = c.args.module.now in
    walked_more m.names (of_block m) (of_statement m) c.args.body.now c.args.scope.now c.args.told c.loop-s.scope c.loop-s.told c.loop-s.s-index c.loop-s.invariant (block_step m) c.told_of_statement-told.new.scope c.told_of_statement-told.result no_statement c.loop-s-test.true c.told_of_statement-told.ensures

pub told_of_branches-loop-branch-init : goal.told_of_branches-loop-branch-init
told_of_branches-loop-branch-init t c =
    let m = c.args.module.now in
    walked_none m.names (of_branches m) (of_branch m) c.args.branches.now c.args.scope.now c.args.told

pub told_of_branches-told_of_expression-told-requires-clause-expression : goal.told_of_branches-told_of_expression-told-requires-clause-expression
told_of_branches-told_of_expression-told-requires-clause-expression t c =
    rw c.branch-item.is (branch_condition_there c.args.module.now _ c.args.branches.now c.loop-branch.branch-index _ c.requires.branches c.loop-branch-test.true)

pub told_of_branches-told_of_block-told-requires : goal.told_of_branches-told_of_block-told-requires
told_of_branches-told_of_block-told-requires t c =
    let names = c.args.module.now.names in
    let here : above c.branch-item.result.body.items ≤ above_branches c.args.branches.now = rw c.branch-item.is (branch_above c.args.branches.now c.loop-branch.branch-index _ c.loop-branch-test.true) in
    let there : AreStmtsBelow (length c.args.module.now.stmts) c.branch-item.result.body.items = rw c.branch-item.is (branch_there c.args.module.now _ c.args.branches.now c.loop-branch.branch-index _ c.requires.branches c.loop-branch-test.true) in
    let sized = sized_on names _ _ c.told_of_expression-told.ensures.same (sized_on names _ _ c.loop-branch.invariant.walks.same c.requires.sized) in
    rw c.deref.ensures.value (omega (arith, c.decreases, here), (there, sized))

pub told_of_branches-loop-branch-preserved : goal.told_of_branches-loop-branch-preserved
told_of_branches-loop-branch-preserved t c =
    let m = c.args.module.now in
    let body = rw c.deref.ensures.value at c.told_of_block-told.ensures in
    let walks = rw c.branch-item.is at (walks_then m.names _ _ _ _ _ _ _ _ c.told_of_expression-told.ensures body) in
    walked_more m.names (of_branches m) (of_branch m) c.args.branches.now c.args.scope.now c.args.told c.loop-branch.scope c.loop-branch.told c.loop-branch.branch-index c.loop-branch.invariant (branches_step m) c.told_of_block-told.new.scope c.told_of_block-told.result _ c.loop-branch-test.true walks

pub told_of_handlers-loop-handler-init : goal.told_of_handlers-loop-handler-init
told_of_handlers-loop-handler-init t c =
    let m = c.args.module.now in
    walked_none m.names (of_handlers m) (of_handler m) c.args.handlers.now c.args.scope.now c.args.told

pub told_of_handlers-told_of_classes-told-requires-clause-classes : goal.told_of_handlers-told_of_classes-told-requires-clause-classes
told_of_handlers-told_of_classes-told-requires-clause-classes t c =
    rw c.handler-item.is (handler_classes_there c.args.module.now _ c.args.handlers.now c.loop-handler.handler-index _ c.requires.handlers c.loop-handler-test.true)

pub told_of_handlers-told_of_block-told-requires : goal.told_of_handlers-told_of_block-told-requires
told_of_handlers-told_of_block-told-requires t c =
    let names = c.args.module.now.names in
    let here : above c.handler-item.result.body.items ≤ above_handlers c.args.handlers.now = rw c.handler-item.is (handler_above c.args.handlers.now c.loop-handler.handler-index _ c.loop-handler-test.true) in
    let there : AreStmtsBelow (length c.args.module.now.stmts) c.handler-item.result.body.items = rw c.handler-item.is (handler_there c.args.module.now _ c.args.handlers.now c.loop-handler.handler-index _ c.requires.handlers c.loop-handler-test.true) in
    rw c.deref.ensures.value (omega (arith, c.decreases, here), (there, sized_on names _ _ c.loop-handler.invariant.walks.same c.requires.sized))

pub told_of_handlers-loop-handler-preserved : goal.told_of_handlers-loop-handler-preserved
told_of_handlers-loop-handler-preserved t c =
    let m = c.args.module.now in
    let h = c.handler-item.result in
    let classes = walks_seen m.names c.loop-handler.scope c.loop-handler.told c.told_of_classes-told.result (λ (s : Scope). uses_in_classes s h.line (texts_of m h.classes)) c.told_of_classes-told.ensures in
    let body = rw c.deref.ensures.value at c.told_of_block-told.ensures in
    let walks = rw c.handler-item.is at (walks_then m.names _ _ _ _ _ _ _ _ classes body) in
    walked_more m.names (of_handlers m) (of_handler m) c.args.handlers.now c.args.scope.now c.args.told c.loop-handler.scope c.loop-handler.told c.loop-handler.handler-index c.loop-handler.invariant (handlers_step m) c.told_of_block-told.new.scope c.told_of_block-told.result _ c.loop-handler-test.true walks

pub told_of_statement-told_of_block-told-requires : goal.told_of_statement-told_of_block-told-requires
told_of_statement-told_of_block-told-requires t c =
    let parts = rw c.in-If.is at c.stmt.ensures.parts in
    let least = above_least c.args.s.index c.in-If.body.items parts.1 in
    let sized = sized_on c.args.module.now.names _ _ c.told_of_expression-told.ensures.same c.requires.sized in
    rw c.deref.ensures.value (omega (arith, c.decreases, least), (stmts_more _ _ (omega arith) c.in-If.body.items parts.1, sized))

pub told_of_statement-told_of_branches-told-requires : goal.told_of_statement-told_of_branches-told-requires
told_of_statement-told_of_branches-told-requires t c =
    let names = c.args.module.now.names in
    let parts = rw c.in-If.is at c.stmt.ensures.parts in
    let least = branches_least c.args.module.now c.args.s.index c.in-If.branches.items parts.2 in
    let sized = sized_on names _ _ c.told_of_block-told.ensures.same (sized_on names _ _ c.told_of_expression-told.ensures.same c.requires.sized) in
    rw c.deref-in-If.ensures.value (omega (arith, c.decreases, least), (branches_up c.args.module.now _ _ (omega arith) c.in-If.branches.items parts.2, sized))

pub told_of_statement-told_of_block-requires : goal.told_of_statement-told_of_block-requires
told_of_statement-told_of_block-requires t c =
    let names = c.args.module.now.names in
    let parts = rw c.in-If.is at c.stmt.ensures.parts in
    let least = above_least c.args.s.index c.in-If.otherwise.items parts.3 in
    let sized = sized_on names _ _ c.told_of_branches-told.ensures.same (sized_on names _ _ c.told_of_block-told.ensures.same (sized_on names _ _ c.told_of_expression-told.ensures.same c.requires.sized)) in
    rw c.deref-in-If-2.ensures.value (omega (arith, c.decreases, least), (stmts_more _ _ (omega arith) c.in-If.otherwise.items parts.3, sized))

pub told_of_statement-told_of_block-told-requires-in-While : goal.told_of_statement-told_of_block-told-requires-in-While
told_of_statement-told_of_block-told-requires-in-While t c =
    let names = c.args.module.now.names in
    let parts = rw c.in-While.is at c.stmt.ensures.parts in
    let least = above_least c.args.s.index c.in-While.body.items parts.1 in
    let sized = sized_on names _ _ c.told_of_expression-told-in-While.ensures.same c.requires.sized in
    rw c.deref-in-While.ensures.value (omega (arith, c.decreases, least), (stmts_more _ _ (omega arith) c.in-While.body.items parts.1, sized))

pub told_of_statement-told_of_block-requires-in-While : goal.told_of_statement-told_of_block-requires-in-While
told_of_statement-told_of_block-requires-in-While t c =
    let names = c.args.module.now.names in
    let parts = rw c.in-While.is at c.stmt.ensures.parts in
    let least = above_least c.args.s.index c.in-While.otherwise.items parts.2 in
    let sized = sized_on names _ _ c.told_of_block-told-in-While.ensures.same (sized_on names _ _ c.told_of_expression-told-in-While.ensures.same c.requires.sized) in
    rw c.deref-in-While-2.ensures.value (omega (arith, c.decreases, least), (stmts_more _ _ (omega arith) c.in-While.otherwise.items parts.2, sized))

pub told_of_statement-told_of_block-told-requires-in-For : goal.told_of_statement-told_of_block-told-requires-in-For
told_of_statement-told_of_block-told-requires-in-For t c =
    let names = c.args.module.now.names in
    let parts = rw c.in-For.is at c.stmt.ensures.parts in
    let least = above_least c.args.s.index c.in-For.body.items parts.2 in
    let sized = sized_on names _ _ c.told_of_expression-told-in-For.ensures.same c.requires.sized in
    rw c.deref-in-For.ensures.value (omega (arith, c.decreases, least), (stmts_more _ _ (omega arith) c.in-For.body.items parts.2, sized))

pub told_of_statement-told_of_block-requires-in-For : goal.told_of_statement-told_of_block-requires-in-For
told_of_statement-told_of_block-requires-in-For t c =
    let names = c.args.module.now.names in
    let parts = rw c.in-For.is at c.stmt.ensures.parts in
    let least = above_least c.args.s.index c.in-For.otherwise.items parts.3 in
    let sized = sized_on names _ _ c.told_of_block-told-in-For.ensures.same (sized_on names _ _ c.told_of_expression-told-in-For.ensures.same c.requires.sized) in
    rw c.deref-in-For-2.ensures.value (omega (arith, c.decreases, least), (stmts_more _ _ (omega arith) c.in-For.otherwise.items parts.3, sized))

pub told_of_statement-told_of_block-told-requires-in-Try : goal.told_of_statement-told_of_block-told-requires-in-Try
told_of_statement-told_of_block-told-requires-in-Try t c =
    let parts = rw c.in-Try.is at c.stmt.ensures.parts in
    let least = above_least c.args.s.index c.in-Try.body.items parts.0 in
    rw c.deref-in-Try.ensures.value (omega (arith, c.decreases, least), (stmts_more _ _ (omega arith) c.in-Try.body.items parts.0, c.requires.sized))

pub told_of_statement-told_of_handlers-told-requires : goal.told_of_statement-told_of_handlers-told-requires
told_of_statement-told_of_handlers-told-requires t c =
    let names = c.args.module.now.names in
    let parts = rw c.in-Try.is at c.stmt.ensures.parts in
    let least = handlers_least c.args.module.now c.args.s.index c.in-Try.handlers.items parts.1 in
    let sized = sized_on names _ _ c.told_of_block-told-in-Try.ensures.same c.requires.sized in
    rw c.deref-in-Try-2.ensures.value (omega (arith, c.decreases, least), (handlers_up c.args.module.now _ _ (omega arith) c.in-Try.handlers.items parts.1, sized))

pub told_of_statement-told_of_block-requires-in-Try : goal.told_of_statement-told_of_block-requires-in-Try
told_of_statement-told_of_block-requires-in-Try t c =
    let names = c.args.module.now.names in
    let parts = rw c.in-Try.is at c.stmt.ensures.parts in
    let least = above_least c.args.s.index c.in-Try.otherwise.items parts.2 in
    let sized = sized_on names _ _ c.told_of_handlers-told.ensures.same (sized_on names _ _ c.told_of_block-told-in-Try.ensures.same c.requires.sized) in
    rw c.deref-in-Try-3.ensures.value (omega (arith, c.decreases, least), (stmts_more _ _ (omega arith) c.in-Try.otherwise.items parts.2, sized))

pub told_of_statement-returns-in-If : goal.told_of_statement-returns-in-If
told_of_statement-returns-in-If t c =
    let names = c.args.module.now.names in
    let body = rw c.deref.ensures.value at c.told_of_block-told.ensures in
    let branches = rw c.deref-in-If.ensures.value at c.told_of_branches-told.ensures in
    let otherwise = rw c.deref-in-If-2.ensures.value at c.told_of_block.ensures in
    rw (c.stmt.ensures.tree, c.in-If.is) (walks_then names _ _ _ _ _ _ _ _ (walks_then names _ _ _ _ _ _ _ _ (walks_then names _ _ _ _ _ _ _ _ c.told_of_expression-told.ensures body) branches) otherwise)

pub told_of_statement-returns-in-While : goal.told_of_statement-returns-in-While
told_of_statement-returns-in-While t c =
    let names = c.args.module.now.names in
    let body = rw c.deref-in-While.ensures.value at c.told_of_block-told-in-While.ensures in
    let otherwise = rw c.deref-in-While-2.ensures.value at c.told_of_block-in-While.ensures in
    rw (c.stmt.ensures.tree, c.in-While.is) (walks_then names _ _ _ _ _ _ _ _ (walks_then names _ _ _ _ _ _ _ _ c.told_of_expression-told-in-While.ensures body) otherwise)

pub told_of_statement-returns-in-For : goal.told_of_statement-returns-in-For
told_of_statement-returns-in-For t c =
    let names = c.args.module.now.names in
    let private = private_told names c.args.scope.now c.in-For.variable c.args.told c.told_if-told.result c.name_text.result.now c.is_private-is_private.result c.in-For.line c.name_text.ensures.text c.is_private-is_private.ensures c.told_if-told.ensures in
    let body = rw c.deref-in-For.ensures.value at c.told_of_block-told-in-For.ensures in
    let otherwise = rw c.deref-in-For-2.ensures.value at c.told_of_block-in-For.ensures in
    rw (c.stmt.ensures.tree, c.in-For.is) (walks_then names _ _ _ _ _ _ _ _ (walks_then names _ _ _ _ _ _ _ _ (walks_then names _ _ _ _ _ _ _ _ private c.told_of_expression-told-in-For.ensures) body) otherwise)

pub told_of_statement-returns-in-Try : goal.told_of_statement-returns-in-Try
told_of_statement-returns-in-Try t c =
    let names = c.args.module.now.names in
    let body = rw c.deref-in-Try.ensures.value at c.told_of_block-told-in-Try.ensures in
    let handlers = rw c.deref-in-Try-2.ensures.value at c.told_of_handlers-told.ensures in
    let otherwise = rw c.deref-in-Try-3.ensures.value at c.told_of_block-in-Try.ensures in
    rw (c.stmt.ensures.tree, c.in-Try.is) (walks_then names _ _ _ _ _ _ _ _ (walks_then names _ _ _ _ _ _ _ _ body handlers) otherwise)

pub told_of_statement-returns-in_default : goal.told_of_statement-returns-in_default
told_of_statement-returns-in_default t c =
    let m = c.args.module.now in
    let line = rw c.stmt.ensures.tree at c.told_of_simple.ensures in
    let same = λ (s : Scope) (p : Shows m.names c.args.scope.now s). line_is m (shown_stmt m) s c.stmt.result.now c.in_default.not-If c.in_default.not-While c.in_default.not-For c.in_default.not-Try in
    rw c.stmt.ensures.tree (walks_as m.names _ _ _ _ _ _ same line)
