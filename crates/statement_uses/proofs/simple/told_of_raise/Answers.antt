use Rattle.name_scopes.proofs.Walking.{walks_then}
use Rattle.statement_uses.proofs.Telling.{raised_told}
use Rattle.statement_uses.proofs.simple.told_of_raise.Goals as goal

pub returns-in-Some : goal.returns-in-Some
returns-in-Some c =
    let names = c.args.module.now.names in
    let h = c.args.scope.now in
    let raised = rw c.meaning.ensures at c.told_of_raised-told.ensures in
    rw c.in-Some.is (walks_then names h h _ _ _ _ _ _ (raised_told names h c.args.class c.args.told c.told_of_raised-told.result c.args.line c.requires.class raised) c.told_of_brackets.ensures)
