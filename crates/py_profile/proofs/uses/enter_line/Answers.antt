use Rattle.spec_uses.specs.ContractScopes.{function_at}
use Rattle.py_tree.specs.Arena.{module_tree}
use Rattle.contract_owners.specs.Members.{owner_in}
use Rattle.py_profile.proofs.Owned.{shows_at}
use Rattle.py_profile.proofs.uses.enter_line.Goals as goal

pub returns-clause-shows : goal.returns-clause-shows
returns-clause-shows c =
    let m = c.args.module.now in
    let entered = c.in_ok-enter_owner.ensures {u = tt} in
    rw c.enter_line.ensures (shows_at m c.enter_owner.new.scope c.args.kind (function_at (module_tree m).body (owner_in c.args.owner)) entered.scope entered.has)
