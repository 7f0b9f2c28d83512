use Rattle.std.proofs.Common.{◌≡◌, ◌+◌, ◌-◌, ◌*◌, length, drop}
use Rattle.spec_trees.specs.Stmt.{no_types, type_item}
use Rattle.spec_grammar.specs.TypeReading.{members_with, type_arguments_with, type_below}
use Rattle.py_tree.specs.Arena.{shown_type}
use Rattle.py_tree.specs.Types.{types_tree, AreTypesBelow}
use Rattle.py_types.specs.Given.{Grows, atom_below}
use Rattle.py_types.proofs.descent.+descent.Given as goal

-- The room falls at each nesting. Within one nesting a caller ranks above what it calls.
abbrev pub decreases-whole : goal.decreases-whole
decreases-whole l = l.room * 5 + 4

abbrev pub decreases-members : goal.decreases-members
decreases-members l = l.room * 5 + 3

abbrev pub decreases-atom : goal.decreases-atom
decreases-atom l = l.room * 5 + 2

abbrev pub decreases-named : goal.decreases-named
decreases-named l = l.room * 5 + 1

abbrev pub decreases-arguments : goal.decreases-arguments
decreases-arguments l = l.room * 5

abbrev pub invariant-members-list : goal.invariant-members-list
invariant-members-list l = record {
  grown : Grows l.initial.into l.into;
  here : AreTypesBelow (length l.into.types) l.list.items;
  read : members_with (atom_below l.room) (l.room - l.counter) (types_tree (shown_type l.into) l.list.items) (drop l.pos l.words)
      ≡ members_with (atom_below l.room) l.room no_types (drop l.start l.words);
}

abbrev pub invariant-arguments-list : goal.invariant-arguments-list
invariant-arguments-list l = record {
  grown : Grows l.initial.into l.into;
  here : AreTypesBelow (length l.into.types) l.list.items;
  read : type_arguments_with (type_below (l.room - 1)) (l.room - l.counter) (types_tree (shown_type l.into) l.list.items) (drop l.pos l.words)
      ≡ type_arguments_with (type_below (l.room - 1)) l.room (type_item (shown_type l.initial.into l.fn.first.index) no_types) (drop l.start l.words);
}
