use Rattle.std.proofs.Common.{◌≡◌, ◌∷◌, [], length, ap, arith, length-append}
use Rattle.first_tree.specs.Arena.{ModuleState, ArePartsBelow}
use Rattle.first_tree.proofs.Arenas.{arena_push, functions_kept}
use Rattle.first_tree.proofs.module.Module.add_expr.Goals as goal

pub invariant_of-self-2 : goal.invariant_of-self-2
invariant_of-self-2 c =
    let nodes : c.self.inside.nodes.items ≡ c.args.self.now.nodes = ap (λ (m : ModuleState). m.nodes) c.self.view_is in
    let parts : ArePartsBelow (length c.self.inside.nodes.items) c.args.node = rw nodes c.requires in
    let items = c.in_ok-push.ensures.items in (
      arena_push _ _ _ c.self.invariant.0 parts items,
      functions_kept (length c.self.inside.nodes.items) (length c.push.new.self.items) _ (omega (arith, ap length items, length-append c.self.inside.nodes.items (c.args.node ∷ []))) c.self.invariant.1,
    )
