use Rattle.std.proofs.Common.{suc, ◌+◌, ◌*◌, max}
use Rattle.name_scopes.proofs.Walking.{WalkedTo}
use Rattle.expression_uses.proofs.Measures.{above_arguments, above_bound, above_brackets, above_generator, above_items, above_links, above_pairs}
use Rattle.expression_uses.proofs.Steps.{of_argument, of_item, of_items, of_link, of_links, of_pair, of_pairs, of_rest}
use Rattle.expression_uses.proofs.expressions.+uses.Given as goal

-- An expression stands above its parts.
abbrev pub decreases-told_of_expression : goal.decreases-told_of_expression
decreases-told_of_expression l = l.e.index * 8 + 7

abbrev pub decreases-told_of_parts : goal.decreases-told_of_parts
decreases-told_of_parts l = l.e.index * 8 + 6

abbrev pub decreases-told_of_call : goal.decreases-told_of_call
decreases-told_of_call l = max (suc l.function.index) (above_brackets l.brackets.now) * 8 + 4

abbrev pub decreases-told_of_brackets : goal.decreases-told_of_brackets
decreases-told_of_brackets l = above_brackets l.brackets.now * 8 + 3

abbrev pub decreases-told_of_arguments : goal.decreases-told_of_arguments
decreases-told_of_arguments l = above_arguments l.arguments.now * 8 + 2

abbrev pub decreases-told_of_second : goal.decreases-told_of_second
decreases-told_of_second l = suc l.second.index * 8 + 1

abbrev pub decreases-told_of_rest : goal.decreases-told_of_rest
decreases-told_of_rest l = above_arguments l.arguments.now * 8 + 1

abbrev pub decreases-told_of_generator : goal.decreases-told_of_generator
decreases-told_of_generator l = above_generator l.generator.now * 8 + 2

abbrev pub decreases-told_of_attribute : goal.decreases-told_of_attribute
decreases-told_of_attribute l = suc l.object.index * 8 + 1

abbrev pub decreases-told_of_bound : goal.decreases-told_of_bound
decreases-told_of_bound l = above_bound l.bound * 8 + 1

abbrev pub decreases-told_of_items : goal.decreases-told_of_items
decreases-told_of_items l = above_items l.items.now * 8 + 1

abbrev pub decreases-told_of_pairs : goal.decreases-told_of_pairs
decreases-told_of_pairs l = above_pairs l.pairs.now * 8 + 1

abbrev pub decreases-told_of_links : goal.decreases-told_of_links
decreases-told_of_links l = above_links l.links.now * 8 + 1

abbrev pub invariant-told_of_items-loop-item : goal.invariant-told_of_items-loop-item
invariant-told_of_items-loop-item l = WalkedTo l.module.names (of_items l.module) (of_item l.module) l.items l.fn.scope l.fn.told l.scope l.told l.item-index

abbrev pub invariant-told_of_pairs-loop-pair : goal.invariant-told_of_pairs-loop-pair
invariant-told_of_pairs-loop-pair l = WalkedTo l.module.names (of_pairs l.module) (of_pair l.module) l.pairs l.fn.scope l.fn.told l.scope l.told l.pair-index

abbrev pub invariant-told_of_links-loop-link : goal.invariant-told_of_links-loop-link
invariant-told_of_links-loop-link l = WalkedTo l.module.names (of_links l.module) (of_link l.module) l.links l.fn.scope l.fn.told l.scope l.told l.link-index

abbrev pub invariant-told_of_rest-loop-argument : goal.invariant-told_of_rest-loop-argument
invariant-told_of_rest-loop-argument l = WalkedTo l.module.names (of_rest l.module) (of_argument l.module) l.arguments l.fn.scope l.fn.told l.scope l.told l.argument-index
