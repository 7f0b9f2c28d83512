use Rattle.std.proofs.Common.{◌≡◌, map, take}
use Rattle.spec_types.specs.Names.{type_name}
use Rattle.py_tree.specs.Arena.{module_tree}
use Rattle.type_names.proofs.table.type_names.Given as goal

abbrev pub invariant-loop-index : goal.invariant-loop-index
invariant-loop-index l = l.types.items ≡ map (type_name (module_tree l.module).body) (take l.index l.module.names)
