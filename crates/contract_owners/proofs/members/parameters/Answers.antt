use Rattle.contract_owners.proofs.Owning.{names_are}
use Rattle.contract_owners.proofs.members.parameters.Goals as goal

pub returns-in-Def-clause-names : goal.returns-in-Def-clause-names
returns-in-Def-clause-names c = rw (c.stmt.ensures.tree, c.in-Def.is, c.deref.ensures.value) (names_are c.args.module.now c.in-Def.parameters.items)
