use Rattle.std.proofs.Common.{inl, inr}
use Rattle.name_scopes.proofs.Walking.{walks_then}
use Rattle.statement_uses.proofs.simple.told_of_simple.Goals as goal

pub returns-in-Annotate : goal.returns-in-Annotate
returns-in-Annotate c = rw (c.stmt.ensures.tree, c.in-Annotate.is) (walks_then c.args.module.now.names _ _ _ _ _ _ _ _ c.told_of_target-told.ensures c.told_of_option.ensures)

pub returns-in-Assign : goal.returns-in-Assign
returns-in-Assign c =
    let walks = walks_then c.args.module.now.names _ _ _ _ _ _ _ _ c.told_of_target-told-in-Assign.ensures c.told_of_expression-in-Assign.ensures in
    elim c.in-Assign.is [
      | inl is ↦ rw (c.stmt.ensures.tree, is) walks
      | inr is ↦ rw (c.stmt.ensures.tree, is.1) walks
    ]
