use Rattle.std.proofs.Common.{rules, sym}
use Rattle.py_tree.specs.Arena.{shown, shown_stmt}
use Rattle.py_tree.specs.Stmts.{block_tree}
use Rattle.module_members.proofs.Defining.{no_branches, no_otherwise}
use Rattle.module_members.proofs.members.member_of.Goals as goal

pub returns-in_default-5-clause-member : goal.returns-in_default-5-clause-member
returns-in_default-5-clause-member c = sym (rw (c.stmt.ensures.tree, c.in-If.is) (no_otherwise c.args.module.now (shown_stmt c.args.module.now) c.in-If.line (shown c.args.module.now c.in-If.condition.index) (block_tree (shown_stmt c.args.module.now) c.in-If.body.items) c.in-If.branches.items c.in-If.otherwise.items (search rules)))

pub returns-in_default-6-clause-member : goal.returns-in_default-6-clause-member
returns-in_default-6-clause-member c = sym (rw (c.stmt.ensures.tree, c.in-If.is) (no_branches c.args.module.now (shown_stmt c.args.module.now) c.in-If.line (shown c.args.module.now c.in-If.condition.index) (block_tree (shown_stmt c.args.module.now) c.in-If.body.items) c.in-If.branches.items c.in-If.otherwise.items (search rules)))
