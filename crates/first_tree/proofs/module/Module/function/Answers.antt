use Rattle.std.proofs.Common.{◌≡◌, length, ap}
use Rattle.first_tree.specs.Arena.{ModuleState}
use Rattle.first_tree.proofs.Arenas.{function_at}
use Rattle.first_tree.proofs.module.Module.function.Goals as goal

pub returns-clause-below : goal.returns-clause-below
returns-clause-below c =
    let nodes : c.self.inside.nodes.items ≡ c.args.self.now.nodes = ap (λ (m : ModuleState). m.nodes) c.self.view_is in
    let functions : c.self.inside.functions.items ≡ c.args.self.now.functions = ap (λ (m : ModuleState). m.functions) c.self.view_is in
    rw (← nodes) (function_at (length c.self.inside.nodes.items) c.self.inside.functions.items c.args.i c.index.result.now c.self.invariant.1 (rw functions c.requires) c.index.ensures)
