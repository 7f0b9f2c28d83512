use Rattle.name_scopes.proofs.Walking.{walks_then, walks_told}
use Rattle.statement_uses.proofs.simple.told_of_brackets.Goals as goal

pub returns-in-Generated : goal.returns-in-Generated
returns-in-Generated c =
    let names = c.args.module.now.names in
    rw c.in-Generated.is (walks_then names _ _ _ _ _ _ _ _ (walks_told names c.args.scope.now _ _ _ c.told_if-told.ensures) c.told_of_generator.ensures)
