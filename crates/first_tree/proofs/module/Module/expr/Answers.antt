use Rattle.std.proofs.Common.{◌≡◌, ap}
use Rattle.first_tree.specs.Arena.{ModuleState}
use Rattle.first_tree.proofs.Arenas.{parts_at, shown_at}
use Rattle.first_tree.proofs.module.Module.expr.Goals as goal

pub returns-clause-parts : goal.returns-clause-parts
returns-clause-parts c =
    let view : c.self.inside.nodes.items ≡ c.args.self.now.nodes = ap (λ (m : ModuleState). m.nodes) c.self.view_is in
    parts_at c.self.inside.nodes.items c.args.e.index c.index.result.now c.self.invariant.0 (rw view c.requires) c.index.ensures

pub returns-clause-tree : goal.returns-clause-tree
returns-clause-tree c =
    let view : c.self.inside.nodes.items ≡ c.args.self.now.nodes = ap (λ (m : ModuleState). m.nodes) c.self.view_is in
    rw (← view) (shown_at c.self.inside.nodes.items c.args.e.index c.index.result.now c.self.invariant.0 (rw view c.requires) c.index.ensures)
