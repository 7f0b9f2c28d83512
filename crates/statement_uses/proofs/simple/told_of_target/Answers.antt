use Rattle.name_scopes.proofs.Walking.{walks_then}
use Rattle.statement_uses.proofs.Telling.{private_told}
use Rattle.statement_uses.proofs.simple.told_of_target.Goals as goal

pub returns-in-Attribute : goal.returns-in-Attribute
returns-in-Attribute c =
    let names = c.args.module.now.names in
    let private = private_told names c.args.scope.now c.in-Attribute.name c.args.told c.told_if-told.result c.name_text.result.now c.is_private-is_private.result c.in-Attribute.line c.name_text.ensures.text c.is_private-is_private.ensures c.told_if-told.ensures in
    rw (c.expr.ensures.tree, c.in-Attribute.is) (walks_then names _ _ _ _ _ _ _ _ private c.told_of_expression.ensures)

pub returns-in-Name : goal.returns-in-Name
returns-in-Name c =
    let names = c.args.module.now.names in
    rw (c.expr.ensures.tree, c.in-Name.is) (private_told names c.args.scope.now c.in-Name.name c.args.told c.told_if.result c.name_text-in-Name.result.now c.is_private-is_private-in-Name.result c.args.line c.name_text-in-Name.ensures.text c.is_private-is_private-in-Name.ensures c.told_if.ensures)
