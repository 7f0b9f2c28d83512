use Rattle.std.proofs.Common.{ap, get_or, subst, ◌∙◌}
use Rattle.py_tree.specs.Arena.{State, IsModule}
use Rattle.py_tree.proofs.Arenas.{parts_at, shown_at}
use Rattle.py_tree.proofs.module.Module.expr.Goals as goal

pub returns-clause-parts : goal.returns-clause-parts
returns-clause-parts c =
    let view = c.self.view_is in
    let valid : IsModule c.args.self.now = subst (λ (m : State). IsModule m) view c.self.invariant in
    parts_at c.args.self.now c.args.e.index c.index.result.now valid c.requires (c.index.ensures ∙ ap (λ (m : State). get_or m.exprs c.args.e.index c.index.result.now) view)

pub returns-clause-tree : goal.returns-clause-tree
returns-clause-tree c =
    let view = c.self.view_is in
    let valid : IsModule c.args.self.now = subst (λ (m : State). IsModule m) view c.self.invariant in
    shown_at c.args.self.now c.args.e.index c.index.result.now valid c.requires (c.index.ensures ∙ ap (λ (m : State). get_or m.exprs c.args.e.index c.index.result.now) view)
