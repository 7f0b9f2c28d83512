use Rattle.std.proofs.Common.{rules, subst}
use Rattle.py_tree.specs.Arena.{State, IsModule}
use Rattle.py_tree.proofs.Arenas.{extends_equal, extends_expr, shown_added}
use Rattle.py_tree.proofs.Statements.{module_expr}
use Rattle.py_tree.proofs.module.Module.add_expr.Goals as goal

pub returns-in_err-push-clause-grown : goal.returns-in_err-push-clause-grown
returns-in_err-push-clause-grown c = extends_equal c.args.self.now _ (search rules)

pub invariant_of-self-2 : goal.invariant_of-self-2
invariant_of-self-2 c =
    let valid : IsModule c.args.self.now = subst (λ (m : State). IsModule m) c.self.view_is c.self.invariant in
    module_expr c.args.self.now _ c.args.node valid c.requires (search rules)

pub returns-clause-tree : goal.returns-clause-tree
returns-clause-tree c = shown_added c.args.self.now _ c.args.node c.len-index.result (search rules) (search rules)

pub returns-clause-grown : goal.returns-clause-grown
returns-clause-grown c = extends_expr c.args.self.now _ c.args.node (search rules)

pub returns-clause-module : goal.returns-clause-module
returns-clause-module c = invariant_of-self-2 c
