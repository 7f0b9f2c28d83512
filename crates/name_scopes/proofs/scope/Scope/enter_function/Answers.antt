use Rattle.std.proofs.Common.{refl}
use Rattle.name_scopes.proofs.Entering.{has_added, scope_back}
use Rattle.name_scopes.proofs.scope.Scope.enter_function.Goals as goal

pub returns-clause-has : goal.returns-clause-has
returns-clause-has c =
    let before = scope_back c.args.module.now _ _ c.self.view_is c.requires.scope in
    has_added c.args.module.now.names c.self.inside.own c.clear.new.self _ c.args.is_constructor _ before.sized.own (c.in_ok-clear.ensures {u = tt}).cleared c.add_parameters.ensures refl
