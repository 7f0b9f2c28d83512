use Rattle.std.proofs.Common.{rules, arith, subst}
use Rattle.std.proofs.lemmas.Grind.{common_steps}
use Rattle.py_tree.specs.Arena.{State, IsModule}
use Rattle.py_tree.proofs.Arenas.{extends_equal, extends_list}
use Rattle.py_tree.proofs.Statements.{module_list}
use Rattle.py_tree.proofs.module.Module.add_names.Goals as goal

pub returns-in_err-list-clause-grown : goal.returns-in_err-list-clause-grown
returns-in_err-list-clause-grown c = extends_equal c.args.self.now _ (search rules)

pub returns-in_err-push-clause-grown : goal.returns-in_err-push-clause-grown
returns-in_err-push-clause-grown c = extends_equal c.args.self.now _ (search rules)

pub invariant_of-self-2 : goal.invariant_of-self-2
invariant_of-self-2 c =
    let valid : IsModule c.args.self.now = subst (λ (m : State). IsModule m) c.self.view_is c.self.invariant in
    module_list c.args.self.now _ c.args.names.now valid c.requires (grind (arith, common_steps))

pub returns-clause-grown : goal.returns-clause-grown
returns-clause-grown c = extends_list c.args.self.now _ c.args.names.now (grind (arith, common_steps))

pub returns-clause-module : goal.returns-clause-module
returns-clause-module c = invariant_of-self-2 c
