use Rattle.std.proofs.Common.{◌≡◌, ◌+◌, ◌*◌, ◌++◌, List, take, Some}
use Rattle.std.specs.List.{flat_map}
use Rattle.spec_types.specs.Names.{type_name}
use Rattle.spec_types.specs.Types.{ValueType, spoken, types_in}
use Rattle.py_tree.specs.Arena.{module_tree, shown_type}
use Rattle.py_tree.specs.Types.{types_tree}
use Rattle.value_types.proofs.Measures.{above}
use Rattle.value_types.proofs.classes.+spoken.Given as goal

-- A type stands above its parts, and a list above its types.
abbrev pub decreases-add_all_spoken : goal.decreases-add_all_spoken
decreases-add_all_spoken l = above l.types.now * 2

abbrev pub decreases-add_spoken : goal.decreases-add_spoken
decreases-add_spoken l = l.t.index * 2 + 1

-- the classes that the types so far speak of
abbrev pub invariant-add_all_spoken-loop-t : goal.invariant-add_all_spoken-loop-t
invariant-add_all_spoken-loop-t l =
    (vs : List ValueType) → types_in (type_name (module_tree l.module).body) (types_tree (shown_type l.module) l.types) ≡ Some vs → l.into.items ≡ l.fn.into.items ++ flat_map spoken (take l.t-index vs)
