use Rattle.std.proofs.Common.{◌≡◌, ◌+◌, ◌-◌, ◌*◌, ◌<◌, ◌≤◌, length, drop}
use Rattle.spec_trees.specs.Expr.{no_exprs, no_links, no_pairs, item, pair}
use Rattle.spec_grammar.specs.Reading.{below, level_with, chain_with, links_with, suffixes_with, args_with, conditions_with, items_with, pairs_with}
use Rattle.py_tree.specs.Arena.{shown}
use Rattle.py_tree.specs.Exprs.{items_tree, pairs_tree, links_tree, argument_list_tree, AreItemsBelow, ArePairsBelow, AreLinksBelow, AreArgumentsBelow}
use Rattle.py_expressions.specs.Given.{Grows}
use Rattle.py_expressions.proofs.descent.+descent.Given as goal

-- The room falls at each nesting. Within one nesting a caller ranks above what it calls.
abbrev pub decreases-operators::expr : goal.decreases-operators::expr
decreases-operators::expr l = l.room * 40

abbrev pub decreases-operators::nested : goal.decreases-operators::nested
decreases-operators::nested l = l.room * 40

abbrev pub decreases-displays::pair : goal.decreases-displays::pair
decreases-displays::pair l = l.room * 40 + 1

abbrev pub decreases-calls::argument : goal.decreases-calls::argument
decreases-calls::argument l = l.room * 40 + 1

abbrev pub decreases-generators::conditions : goal.decreases-generators::conditions
decreases-generators::conditions l = l.room * 40 + 1

abbrev pub decreases-displays::items : goal.decreases-displays::items
decreases-displays::items l = l.room * 40 + 1

abbrev pub decreases-primaries::slice : goal.decreases-primaries::slice
decreases-primaries::slice l = l.room * 40 + 1

abbrev pub decreases-primaries::group : goal.decreases-primaries::group
decreases-primaries::group l = l.room * 40 + 1

abbrev pub decreases-generators::generator : goal.decreases-generators::generator
decreases-generators::generator l = l.room * 40 + 2

abbrev pub decreases-displays::pairs : goal.decreases-displays::pairs
decreases-displays::pairs l = l.room * 40 + 2

abbrev pub decreases-calls::more_arguments : goal.decreases-calls::more_arguments
decreases-calls::more_arguments l = l.room * 40 + 2

abbrev pub decreases-primaries::subscript : goal.decreases-primaries::subscript
decreases-primaries::subscript l = l.room * 40 + 2

abbrev pub decreases-calls::argument_list : goal.decreases-calls::argument_list
decreases-calls::argument_list l = l.room * 40 + 3

abbrev pub decreases-displays::list : goal.decreases-displays::list
decreases-displays::list l = l.room * 40 + 3

abbrev pub decreases-displays::dict : goal.decreases-displays::dict
decreases-displays::dict l = l.room * 40 + 3

abbrev pub decreases-calls::arguments : goal.decreases-calls::arguments
decreases-calls::arguments l = l.room * 40 + 4

abbrev pub decreases-primaries::signed : goal.decreases-primaries::signed
decreases-primaries::signed l = l.room * 40 + 4

abbrev pub decreases-primaries::suffixes : goal.decreases-primaries::suffixes
decreases-primaries::suffixes l = l.room * 40 + 5

abbrev pub decreases-primaries::atom : goal.decreases-primaries::atom
decreases-primaries::atom l = l.room * 40 + 5

abbrev pub decreases-primaries::prim : goal.decreases-primaries::prim
decreases-primaries::prim l = l.room * 40 + 6

abbrev pub decreases-operators::level : goal.decreases-operators::level
decreases-operators::level l = l.room * 40 + 7 + 3 * l.of

abbrev pub decreases-operators::chain : goal.decreases-operators::chain
decreases-operators::chain l = l.room * 40 + 8 + 3 * l.of

abbrev pub decreases-operators::links : goal.decreases-operators::links
decreases-operators::links l = l.room * 40 + 8 + 3 * l.of

abbrev pub decreases-operators::operands : goal.decreases-operators::operands
decreases-operators::operands l = l.room * 40 + 9 + 3 * l.of

abbrev pub decreases-operators::conditional : goal.decreases-operators::conditional
decreases-operators::conditional l = l.room * 40 + 39

abbrev pub invariant-operators::chain-operators : goal.invariant-operators::chain-operators
invariant-operators::chain-operators l = record {
  grown : Grows l.initial.into l.into;
  here : l.left.index < length l.into.exprs;
  read : chain_with (level_with (below l.room) l.of) l.of l.line (l.room - l.counter) (shown l.into l.left.index) (drop l.pos l.words)
      ≡ chain_with (level_with (below l.room) l.of) l.of l.line l.room (shown l.initial.into l.fn.first.index) (drop l.start l.words);
}

abbrev pub invariant-operators::links-operators : goal.invariant-operators::links-operators
invariant-operators::links-operators l = record {
  grown : Grows l.initial.into l.into;
  here : AreLinksBelow (length l.into.exprs) l.links.items;
  read : links_with (level_with (below l.room) l.of) l.of (l.room - l.counter) (links_tree (shown l.into) l.links.items) (drop l.pos l.words)
      ≡ links_with (level_with (below l.room) l.of) l.of l.room no_links (drop l.start l.words);
}

abbrev pub invariant-primaries::suffixes-suffixes : goal.invariant-primaries::suffixes-suffixes
invariant-primaries::suffixes-suffixes l = record {
  grown : Grows l.initial.into l.into;
  here : l.value.index < length l.into.exprs;
  read : suffixes_with (below l.room) l.line (l.room - l.counter) (shown l.into l.value.index) (drop l.pos l.words)
      ≡ suffixes_with (below l.room) l.line l.room (shown l.initial.into l.fn.first.index) (drop l.start l.words);
}

abbrev pub invariant-calls::more_arguments-list : goal.invariant-calls::more_arguments-list
invariant-calls::more_arguments-list l = record {
  grown : Grows l.initial.into l.into;
  here : AreArgumentsBelow (length l.into.names) (length l.into.exprs) l.list.items;
  read : args_with (below l.room) (l.room - l.counter) l.named (argument_list_tree l.into.names (shown l.into) l.list.items) (drop l.pos l.words)
      ≡ args_with (below l.room) l.room l.keyword (argument_list_tree l.initial.into.names (shown l.initial.into) l.fn.before.items) (drop l.start l.words);
}

abbrev pub invariant-generators::conditions-list : goal.invariant-generators::conditions-list
invariant-generators::conditions-list l = record {
  grown : Grows l.initial.into l.into;
  here : AreItemsBelow (length l.into.exprs) l.list.items;
  read : conditions_with (below l.room) (l.room - l.counter) (items_tree (shown l.into) l.list.items) (drop l.pos l.words)
      ≡ conditions_with (below l.room) l.room no_exprs (drop l.start l.words);
}

abbrev pub invariant-displays::items-list : goal.invariant-displays::items-list
invariant-displays::items-list l = record {
  grown : Grows l.initial.into l.into;
  here : AreItemsBelow (length l.into.exprs) l.list.items;
  read : items_with (below l.room) (l.room - l.counter) (items_tree (shown l.into) l.list.items) (drop l.pos l.words)
      ≡ items_with (below l.room) l.room (item (shown l.initial.into l.fn.first.index) no_exprs) (drop l.start l.words);
}

abbrev pub invariant-displays::pairs-list : goal.invariant-displays::pairs-list
invariant-displays::pairs-list l = record {
  grown : Grows l.initial.into l.into;
  here : ArePairsBelow (length l.into.exprs) l.list.items;
  read : pairs_with (below l.room) (l.room - l.counter) (pairs_tree (shown l.into) l.list.items) (drop l.pos l.words)
      ≡ pairs_with (below l.room) l.room (pair (shown l.initial.into l.fn.first.key.index) (shown l.initial.into l.fn.first.value.index) no_pairs) (drop l.start l.words);
}
