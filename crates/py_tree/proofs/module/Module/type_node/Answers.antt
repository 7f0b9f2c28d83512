use Rattle.std.proofs.Common.{ap, get_or, ◌∙◌, subst}
use Rattle.py_tree.specs.Arena.{State, IsModule}
use Rattle.py_tree.proofs.Arenas.{type_parts_at, shown_type_at}
use Rattle.py_tree.proofs.module.Module.type_node.Goals as goal

pub returns-clause-parts : goal.returns-clause-parts
returns-clause-parts c =
    let view = c.self.view_is in
    let valid : IsModule c.args.self.now = subst (λ (m : State). IsModule m) view c.self.invariant in
    type_parts_at c.args.self.now c.args.t.index c.index.result.now valid c.requires (c.index.ensures ∙ ap (λ (m : State). get_or m.types c.args.t.index c.index.result.now) view)

pub returns-clause-tree : goal.returns-clause-tree
returns-clause-tree c =
    let view = c.self.view_is in
    let valid : IsModule c.args.self.now = subst (λ (m : State). IsModule m) view c.self.invariant in
    shown_type_at c.args.self.now c.args.t.index c.index.result.now valid c.requires (c.index.ensures ∙ ap (λ (m : State). get_or m.types c.args.t.index c.index.result.now) view)
