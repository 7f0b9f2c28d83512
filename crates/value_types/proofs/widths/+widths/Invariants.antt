use Rattle.std.proofs.Common.{◌≡◌, ◌+◌, ◌*◌, ℕ, List, Option, drop, take, Some}
use Rattle.std.specs.Option.{option_map}
use Rattle.spec_types.specs.Names.{type_name}
use Rattle.spec_types.specs.Types.{ValueType, types_in}
use Rattle.py_tree.specs.Arena.{module_tree, shown_type}
use Rattle.py_tree.specs.Types.{types_tree}
use Rattle.value_types.specs.Widths.{AreCapped, capped, first_other, widths}
use Rattle.value_types.proofs.Measures.{above}
use Rattle.value_types.proofs.widths.+widths.Given as goal

-- A type stands above its parts, and a list above its types.
abbrev pub decreases-total : goal.decreases-total
decreases-total l = above l.types.now * 3

abbrev pub decreases-other_width : goal.decreases-other_width
decreases-other_width l = above l.types.now * 3

abbrev pub decreases-width_with : goal.decreases-width_with
decreases-width_with l = above l.arguments.now * 3 + 1

abbrev pub decreases-width : goal.decreases-width
decreases-width l = l.t.index * 3 + 2

-- the widths of the types so far
abbrev pub invariant-total-loop-t : goal.invariant-total-loop-t
invariant-total-loop-t l =
    (vs : List ValueType) → types_in (type_name (module_tree l.module).body) (types_tree (shown_type l.module) l.types) ≡ Some vs → (of_class : ℕ → Option ℕ) → AreCapped l.classes of_class → l.total ≡ option_map capped (widths l.max_len of_class (take l.t-index vs))

-- all types so far are None
abbrev pub invariant-other_width-loop-t : goal.invariant-other_width-loop-t
invariant-other_width-loop-t l =
    (vs : List ValueType) → types_in (type_name (module_tree l.module).body) (types_tree (shown_type l.module) l.types) ≡ Some vs → first_other (drop l.t-index vs) ≡ first_other vs
