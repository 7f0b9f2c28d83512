use Rattle.std.proofs.Common.{◌≡◌, length, ap}
use Rattle.first_tree.specs.Arena.{ModuleState, IsFunctionBelow}
use Rattle.first_tree.proofs.Arenas.{functions_push}
use Rattle.first_tree.proofs.module.Module.add_function.Goals as goal

pub invariant_of-self-2 : goal.invariant_of-self-2
invariant_of-self-2 c =
    let nodes : c.self.inside.nodes.items ≡ c.args.self.now.nodes = ap (λ (m : ModuleState). m.nodes) c.self.view_is in
    let below : IsFunctionBelow (length c.self.inside.nodes.items) c.args.function = rw nodes c.requires in
    (c.self.invariant.0, functions_push _ _ _ _ c.self.invariant.1 below c.in_ok-push.ensures.items)
