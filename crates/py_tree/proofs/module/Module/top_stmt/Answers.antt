use Rattle.std.proofs.Common.{get_or, ap, subst, ◌∙◌}
use Rattle.py_tree.specs.Arena.{State, IsModule}
use Rattle.py_tree.proofs.Statements.{stmt_found}
use Rattle.py_tree.proofs.module.Module.top_stmt.Goals as goal

pub returns-clause-below : goal.returns-clause-below
returns-clause-below c =
    let valid : IsModule c.args.self.now = subst (λ (m : State). IsModule m) c.self.view_is c.self.invariant in
    stmt_found _ c.args.self.now.tops c.args.i c.index.result.now valid.tops c.requires (c.index.ensures ∙ ap (λ (m : State). get_or m.tops c.args.i c.index.result.now) c.self.view_is)
