use Rattle.std.proofs.Common.{◌≡◌, ◌+◌, ◌*◌, length, drop}
use Rattle.std.specs.Prelude.{nat_lt}
use Rattle.spec_grammar.specs.Height.{items_height, pairs_height, links_height, list_height}
use Rattle.py_tree.specs.Exprs.{items_tree, pairs_tree, links_tree, argument_list_tree, AreItemsBelow, ArePairsBelow, AreLinksBelow, AreArgumentsBelow}
use Rattle.py_tree.specs.State.{shown}
use Rattle.py_heights.proofs.walk.+walk.Given as goal

-- The room falls at each nesting. Within one nesting a caller ranks above what it calls.
abbrev pub decreases-is_above : goal.decreases-is_above
decreases-is_above l = l.room * 5

abbrev pub decreases-is_bound_above : goal.decreases-is_bound_above
decreases-is_bound_above l = l.room * 5 + 1

abbrev pub decreases-are_items_above : goal.decreases-are_items_above
decreases-are_items_above l = l.room * 5 + 1

abbrev pub decreases-are_pairs_above : goal.decreases-are_pairs_above
decreases-are_pairs_above l = l.room * 5 + 1

abbrev pub decreases-are_links_above : goal.decreases-are_links_above
decreases-are_links_above l = l.room * 5 + 1

abbrev pub decreases-are_listed_above : goal.decreases-are_listed_above
decreases-are_listed_above l = l.room * 5 + 1

abbrev pub decreases-is_generator_above : goal.decreases-is_generator_above
decreases-is_generator_above l = l.room * 5 + 2

abbrev pub decreases-are_arguments_above : goal.decreases-are_arguments_above
decreases-are_arguments_above l = l.room * 5 + 3

abbrev pub decreases-are_parts_above : goal.decreases-are_parts_above
decreases-are_parts_above l = l.room * 5 + 4

-- What is left is there, and tells the answer.
abbrev pub invariant-are_items_above-loop-item : goal.invariant-are_items_above-loop-item
invariant-are_items_above-loop-item l = record {
  there : AreItemsBelow (length l.module.exprs) (drop l.item-index l.items);
  rest : nat_lt l.room (items_height (items_tree (shown l.module) (drop l.item-index l.items)))
      ≡ nat_lt l.room (items_height (items_tree (shown l.module) l.items));
}

abbrev pub invariant-are_pairs_above-loop-pair : goal.invariant-are_pairs_above-loop-pair
invariant-are_pairs_above-loop-pair l = record {
  there : ArePairsBelow (length l.module.exprs) (drop l.pair-index l.pairs);
  rest : nat_lt l.room (pairs_height (pairs_tree (shown l.module) (drop l.pair-index l.pairs)))
      ≡ nat_lt l.room (pairs_height (pairs_tree (shown l.module) l.pairs));
}

abbrev pub invariant-are_links_above-loop-link : goal.invariant-are_links_above-loop-link
invariant-are_links_above-loop-link l = record {
  there : AreLinksBelow (length l.module.exprs) (drop l.link-index l.links);
  rest : nat_lt l.room (links_height (links_tree (shown l.module) (drop l.link-index l.links)))
      ≡ nat_lt l.room (links_height (links_tree (shown l.module) l.links));
}

abbrev pub invariant-are_listed_above-loop-argument : goal.invariant-are_listed_above-loop-argument
invariant-are_listed_above-loop-argument l = record {
  there : AreArgumentsBelow (length l.module.names) (length l.module.exprs) (drop l.argument-index l.listed);
  rest : nat_lt l.room (list_height (argument_list_tree l.module.names (shown l.module) (drop l.argument-index l.listed)))
      ≡ nat_lt l.room (list_height (argument_list_tree l.module.names (shown l.module) l.listed));
}
