use Rattle.std.proofs.Common.{◌≡◌, ◌+◌, ◌*◌, ◌≤◌, ℕ, drop}
use Rattle.std.specs.Option.{option_map}
use Rattle.spec_types.specs.Names.{type_name}
use Rattle.spec_types.specs.Types.{types_in}
use Rattle.py_tree.specs.Arena.{module_tree, shown_type}
use Rattle.py_tree.specs.Types.{types_tree}
use Rattle.value_types.specs.Kinds.{others_count}
use Rattle.value_types.proofs.Measures.{above}
use Rattle.value_types.proofs.kinds.+kinds.Given as goal

-- A type stands above its parts, and a list above its types.
abbrev pub decreases-kind_with : goal.decreases-kind_with
decreases-kind_with l = above l.arguments.now * 2

abbrev pub decreases-others_count : goal.decreases-others_count
decreases-others_count l = above l.types.now * 2

abbrev pub decreases-kind : goal.decreases-kind
decreases-kind l = l.t.index * 2 + 1

-- the types so far and those to come
abbrev pub invariant-others_count-loop-t : goal.invariant-others_count-loop-t
invariant-others_count-loop-t l = record {
  few : l.count ≤ l.t-index;
  counted : others_count (types_in (type_name (module_tree l.module).body) (types_tree (shown_type l.module) l.types))
      ≡ option_map (λ (n : ℕ). l.count + n) (others_count (types_in (type_name (module_tree l.module).body) (types_tree (shown_type l.module) (drop l.t-index l.types))));
}
