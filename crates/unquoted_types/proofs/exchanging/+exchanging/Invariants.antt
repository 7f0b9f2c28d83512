use Rattle.std.proofs.Common.{◌≡◌, ◌+◌, ◌*◌, length, drop, max}
use Rattle.std.specs.Option.{option_map}
use Rattle.spec_types.specs.Quotes.{all_exchanged, held_type}
use Rattle.py_tree.specs.Arena.{shown_type}
use Rattle.py_tree.specs.Types.{types_tree, AreTypesBelow}
use Rattle.py_types.specs.Given.{Grows}
use Rattle.unquoted_types.proofs.Turns.{onto}
use Rattle.unquoted_types.proofs.Measures.{above, room}
use Rattle.unquoted_types.proofs.exchanging.+exchanging.Given as goal

-- The bound falls with each string. Within one bound a type stands above its parts, and a list above its types.
abbrev pub decreases-held : goal.decreases-held
decreases-held l = l.bound * room

abbrev pub decreases-all_exchanged : goal.decreases-all_exchanged
decreases-all_exchanged l = l.bound * room + above l.types.now * 4 + 1

abbrev pub decreases-exchanged_name : goal.decreases-exchanged_name
decreases-exchanged_name l = l.bound * room + above l.arguments.now * 4 + 2

abbrev pub decreases-exchanged_union : goal.decreases-exchanged_union
decreases-exchanged_union l = l.bound * room + max (l.first.index + 1) (above l.rest.now) * 4 + 2

abbrev pub decreases-exchanged : goal.decreases-exchanged
decreases-exchanged l = l.bound * room + l.t.index * 4 + 3

abbrev pub invariant-all_exchanged-loop-t : goal.invariant-all_exchanged-loop-t
invariant-all_exchanged-loop-t l = record {
  grown : Grows l.fn.module l.module;
  here : AreTypesBelow (length l.module.types) l.made.items;
  read : all_exchanged (held_type l.bound) (types_tree (shown_type l.fn.module) l.types)
      ≡ option_map (onto (shown_type l.module) l.made.items) (all_exchanged (held_type l.bound) (types_tree (shown_type l.fn.module) (drop l.t-index l.types)));
}
