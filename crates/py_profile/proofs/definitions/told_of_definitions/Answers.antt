use Rattle.py_tree.specs.Arena.{module_tree}
use Rattle.py_profile.proofs.Walking.{definitions_told}
use Rattle.py_profile.proofs.definitions.told_of_definitions.Goals as goal

pub returns : goal.returns
returns c = definitions_told (module_tree c.args.module.now).body _ _ _ _ _ c.told_of_statements-told.ensures (c.in_ok-told.ensures {u = tt}) (c.in_ok-told-2.ensures {u = tt}) (c.in_ok-told-3.ensures {u = tt})
