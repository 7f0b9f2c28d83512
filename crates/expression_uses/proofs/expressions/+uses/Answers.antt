use Rattle.std.proofs.Common.{◌∙◌, ◌-◌, [], ◌∷◌, ◌++◌, ◌&&◌, arith, ap, drop, take, get_or, length, not, refl, sym, Option}
use Rattle.spec_uses.specs.declared.Place.TheVariants.{Called, Read, Walked}
use Rattle.std.specs.List.{list_any}
use Rattle.spec_names.specs.Defined.{are_repeated}
use Rattle.spec_uses.specs.Meanings.{with_locals}
use Rattle.spec_uses.specs.Expressions.{builtin_in, is_isinstance, is_misused, is_range, is_walked, keywords, unless_called, uses, uses_in, uses_in_call, uses_in_rest}
use Rattle.spec_names.specs.declared.builtins.Builtin.{Builtin}
use Rattle.expression_uses.specs.Parts.{uses_in_second}
use Rattle.expression_uses.proofs.Calls.{more_told, sole_told}
use Rattle.py_tree.specs.Arena.{shown}
use Rattle.name_scopes.proofs.Repeating.{no_argument}
use Rattle.name_scopes.proofs.Walking.{sized_on, walked_all, walked_more, walked_none, walks_as, walks_then, walks_told}
use Rattle.std.proofs.lemmas.List.{append_assoc}
use Rattle.spec_names.specs.Names.{is_private}
use Rattle.spec_names.specs.Refusals.{refused_if}
use Rattle.spec_names.specs.declared.ProfileFault.TheVariants.{Duplicate, Form}
use Rattle.py_tree.specs.Names.{text_of}
use Rattle.py_tree.specs.Exprs.{argument_list_tree, arguments_tree, items_tree}
use Rattle.told_refusals.specs.Telling.{Tells}
use Rattle.told_refusals.proofs.Telling.{tells_then}
use Rattle.name_scopes.specs.Walking.{Walks}
use Rattle.expression_uses.proofs.Inner.{walks_inner}
use Rattle.expression_uses.proofs.Plain.{with_parts}
use Rattle.expression_uses.proofs.Keywords.{text_is}
use Rattle.expression_uses.proofs.Measures.{argument_above, argument_there, brackets_least, brackets_up, generator_least, generator_up, item_above, item_there, items_least, items_up, link_above, link_there, links_least, links_up, no_item, no_link, no_pair, pair_above, pair_there, pairs_least, pairs_up}
use Rattle.expression_uses.proofs.Steps.{items_step, links_step, of_argument, of_item, of_items, of_link, of_links, of_pair, of_pairs, of_rest, pairs_step, rest_step}
use Rattle.expression_uses.proofs.expressions.+uses.Goals as goal

pub told_of_items-loop-item-init : goal.told_of_items-loop-item-init
told_of_items-loop-item-init t c =
    let m = c.args.module.now in
    walked_none m.names (of_items m) (of_item m) c.args.items.now c.args.scope.now c.args.told

pub told_of_items-returns : goal.told_of_items-returns
told_of_items-returns t c =
    let m = c.args.module.now in
    walked_all m.names (of_items m) (of_item m) c.args.items.now c.args.scope.now c.args.told c.loop-item.scope c.loop-item.told c.loop-item.item-index c.loop-item.invariant (λ s. refl) c.loop-item-test.false

pub told_of_items-told_of_expression-told-requires : goal.told_of_items-told_of_expression-told-requires
told_of_items-told_of_expression-told-requires t c =
    let m = c.args.module.now in
    let here = item_above c.args.items.now c.loop-item.item-index no_item c.loop-item-test.true in
    (omega (arith, c.decreases, here), (item_there _ c.args.items.now c.loop-item.item-index no_item c.requires.items c.loop-item-test.true, sized_on m.names c.args.scope.now c.loop-item.scope c.loop-item.invariant.walks.same c.requires.sized))

pub told_of_items-loop-item-preserved : goal.told_of_items-loop-item-preserved
told_of_items-loop-item-preserved t c =
    let m = c.args.module.now in
    walked_more m.names (of_items m) (of_item m) c.args.items.now c.args.scope.now c.args.told c.loop-item.scope c.loop-item.told c.loop-item.item-index c.loop-item.invariant (items_step m) c.told_of_expression-told.new.scope c.told_of_expression-told.result no_item c.loop-item-test.true c.told_of_expression-told.ensures

pub told_of_links-loop-link-init : goal.told_of_links-loop-link-init
told_of_links-loop-link-init t c =
    let m = c.args.module.now in
    walked_none m.names (of_links m) (of_link m) c.args.links.now c.args.scope.now c.args.told

pub told_of_links-returns : goal.told_of_links-returns
told_of_links-returns t c =
    let m = c.args.module.now in
    walked_all m.names (of_links m) (of_link m) c.args.links.now c.args.scope.now c.args.told c.loop-link.scope c.loop-link.told c.loop-link.link-index c.loop-link.invariant (λ s. refl) c.loop-link-test.false

pub told_of_links-told_of_expression-told-requires : goal.told_of_links-told_of_expression-told-requires
told_of_links-told_of_expression-told-requires t c =
    let m = c.args.module.now in
    let here = link_above c.args.links.now c.loop-link.link-index no_link c.loop-link-test.true in
    (omega (arith, c.decreases, here), (link_there _ c.args.links.now c.loop-link.link-index no_link c.requires.links c.loop-link-test.true, sized_on m.names c.args.scope.now c.loop-link.scope c.loop-link.invariant.walks.same c.requires.sized))

pub told_of_links-loop-link-preserved : goal.told_of_links-loop-link-preserved
told_of_links-loop-link-preserved t c =
    let m = c.args.module.now in
    walked_more m.names (of_links m) (of_link m) c.args.links.now c.args.scope.now c.args.told c.loop-link.scope c.loop-link.told c.loop-link.link-index c.loop-link.invariant (links_step m) c.told_of_expression-told.new.scope c.told_of_expression-told.result no_link c.loop-link-test.true c.told_of_expression-told.ensures

pub told_of_rest-loop-argument-init : goal.told_of_rest-loop-argument-init
told_of_rest-loop-argument-init t c =
    let m = c.args.module.now in
    walked_none m.names (of_rest m) (of_argument m) c.args.arguments.now c.args.scope.now c.args.told

pub told_of_rest-returns : goal.told_of_rest-returns
told_of_rest-returns t c =
    let m = c.args.module.now in
    walked_all m.names (of_rest m) (of_argument m) c.args.arguments.now c.args.scope.now c.args.told c.loop-argument.scope c.loop-argument.told c.loop-argument.argument-index c.loop-argument.invariant (λ s. refl) c.loop-argument-test.false

pub told_of_rest-told_of_expression-told-requires : goal.told_of_rest-told_of_expression-told-requires
told_of_rest-told_of_expression-told-requires t c =
    let m = c.args.module.now in
    let here = argument_above c.args.arguments.now c.loop-argument.argument-index no_argument c.loop-argument-test.true in
    (omega (arith, c.decreases, here), (argument_there _ _ c.args.arguments.now c.loop-argument.argument-index no_argument c.requires.arguments c.loop-argument-test.true, sized_on m.names c.args.scope.now c.loop-argument.scope c.loop-argument.invariant.walks.same c.requires.sized))

pub told_of_rest-loop-argument-preserved : goal.told_of_rest-loop-argument-preserved
told_of_rest-loop-argument-preserved t c =
    let m = c.args.module.now in
    walked_more m.names (of_rest m) (of_argument m) c.args.arguments.now c.args.scope.now c.args.told c.loop-argument.scope c.loop-argument.told c.loop-argument.argument-index c.loop-argument.invariant (rest_step m) c.told_of_expression-told.new.scope c.told_of_expression-told.result no_argument c.loop-argument-test.true c.told_of_expression-told.ensures

pub told_of_pairs-loop-pair-init : goal.told_of_pairs-loop-pair-init
told_of_pairs-loop-pair-init t c =
    let m = c.args.module.now in
    walked_none m.names (of_pairs m) (of_pair m) c.args.pairs.now c.args.scope.now c.args.told

pub told_of_pairs-returns : goal.told_of_pairs-returns
told_of_pairs-returns t c =
    let m = c.args.module.now in
    walked_all m.names (of_pairs m) (of_pair m) c.args.pairs.now c.args.scope.now c.args.told c.loop-pair.scope c.loop-pair.told c.loop-pair.pair-index c.loop-pair.invariant (λ s. refl) c.loop-pair-test.false

pub told_of_pairs-told_of_expression-told-requires : goal.told_of_pairs-told_of_expression-told-requires
told_of_pairs-told_of_expression-told-requires t c =
    let m = c.args.module.now in
    let here = pair_above c.args.pairs.now c.loop-pair.pair-index no_pair c.loop-pair-test.true in
    let there = pair_there (length m.exprs) c.args.pairs.now c.loop-pair.pair-index no_pair c.requires.pairs c.loop-pair-test.true in
    (omega (arith, c.decreases, here.0), (there.0, sized_on m.names c.args.scope.now c.loop-pair.scope c.loop-pair.invariant.walks.same c.requires.sized))

pub told_of_pairs-told_of_expression-told-requires-in-loop-pair : goal.told_of_pairs-told_of_expression-told-requires-in-loop-pair
told_of_pairs-told_of_expression-told-requires-in-loop-pair t c =
    let m = c.args.module.now in
    let here = pair_above c.args.pairs.now c.loop-pair.pair-index no_pair c.loop-pair-test.true in
    let there = pair_there (length m.exprs) c.args.pairs.now c.loop-pair.pair-index no_pair c.requires.pairs c.loop-pair-test.true in
    (omega (arith, c.decreases, here.1), (there.1, sized_on m.names c.args.scope.now c.told_of_expression-told.new.scope (c.told_of_expression-told.ensures.same ∙ c.loop-pair.invariant.walks.same) c.requires.sized))

pub told_of_pairs-loop-pair-preserved : goal.told_of_pairs-loop-pair-preserved
told_of_pairs-loop-pair-preserved t c =
    let m = c.args.module.now in
    let pair = get_or c.args.pairs.now c.loop-pair.pair-index no_pair in
    walked_more m.names (of_pairs m) (of_pair m) c.args.pairs.now c.args.scope.now c.args.told c.loop-pair.scope c.loop-pair.told c.loop-pair.pair-index c.loop-pair.invariant (pairs_step m) c.told_of_expression-told-in-loop-pair.new.scope c.told_of_expression-told-in-loop-pair.result no_pair c.loop-pair-test.true
    (walks_then m.names _ _ _ _ _ _ (λ s. uses Read s (shown m pair.key.index)) (λ s. uses Read s (shown m pair.value.index)) c.told_of_expression-told.ensures c.told_of_expression-told-in-loop-pair.ensures)

-- ---- the parts of an expression

pub told_of_parts-told_of_items-requires : goal.told_of_parts-told_of_items-requires
told_of_parts-told_of_items-requires t c =
    let parts = rw c.in-List.is at c.expr.ensures.parts in
    let least = items_least c.args.e.index c.in-List.items.items parts in
    rw c.deref.ensures.value (omega (arith, c.decreases, least), (items_up _ _ (omega arith) c.in-List.items.items parts, c.requires.sized))

pub told_of_parts-told_of_pairs-requires : goal.told_of_parts-told_of_pairs-requires
told_of_parts-told_of_pairs-requires t c =
    let parts = rw c.in-Dict.is at c.expr.ensures.parts in
    let least = pairs_least c.args.e.index c.in-Dict.pairs.items parts in
    rw c.deref-in-Dict.ensures.value (omega (arith, c.decreases, least), (pairs_up _ _ (omega arith) c.in-Dict.pairs.items parts, c.requires.sized))

pub told_of_parts-told_of_generator-requires : goal.told_of_parts-told_of_generator-requires
told_of_parts-told_of_generator-requires t c =
    let m = c.args.module.now in
    let parts = rw c.in-Comprehension.is at c.expr.ensures.parts in
    let least = generator_least (length m.names) c.args.e.index c.in-Comprehension.generator parts in
    (omega (arith, c.decreases, least), (generator_up _ _ (omega arith) (length m.names) c.in-Comprehension.generator parts, c.requires.sized))

pub told_of_parts-told_of_links-requires : goal.told_of_parts-told_of_links-requires
told_of_parts-told_of_links-requires t c =
    let m = c.args.module.now in
    let parts = rw c.in-Chain.is at c.expr.ensures.parts in
    let least = links_least c.args.e.index c.in-Chain.links.items parts.1 in
    rw c.deref-in-Chain.ensures.value (omega (arith, c.decreases, least), (links_up _ _ (omega arith) c.in-Chain.links.items parts.1, sized_on m.names c.args.scope.now _ c.told_of_expression-told-in-Chain.ensures.same c.requires.sized))

pub told_of_parts-returns-in-Slice : goal.told_of_parts-returns-in-Slice
told_of_parts-returns-in-Slice t c =
    let m = c.args.module.now in
    rw (c.expr.ensures.tree, c.in-Slice.is) (walks_then m.names _ _ _ _ _ _ _ _ (walks_then m.names _ _ _ _ _ _ (λ s. uses Read s (shown m c.in-Slice.object.index)) _ c.told_of_expression-told-in-Slice.ensures c.told_of_bound-told.ensures) c.told_of_bound.ensures)

pub told_of_parts-returns-in-Chain : goal.told_of_parts-returns-in-Chain
told_of_parts-returns-in-Chain t c =
    let m = c.args.module.now in
    let links = rw c.deref-in-Chain.ensures.value at c.told_of_links.ensures in
    rw (c.expr.ensures.tree, c.in-Chain.is) (walks_then m.names _ _ _ _ _ _ (λ s. uses Read s (shown m c.in-Chain.first.index)) _ c.told_of_expression-told-in-Chain.ensures links)

pub told_of_parts-returns-in-Choice : goal.told_of_parts-returns-in-Choice
told_of_parts-returns-in-Choice t c =
    let m = c.args.module.now in
    rw (c.expr.ensures.tree, c.in-Choice.is) (walks_then m.names _ _ _ _ _ _ _ (λ s. uses Read s (shown m c.in-Choice.otherwise.index))
    (walks_then m.names _ _ _ _ _ _ (λ s. uses Read s (shown m c.in-Choice.value.index)) (λ s. uses Read s (shown m c.in-Choice.condition.index)) c.told_of_expression-told-in-Choice.ensures c.told_of_expression-told-in-Choice-2.ensures) c.told_of_expression-in-Choice.ensures)

-- ---- expressions

pub told_of_expression-told_of_call-requires : goal.told_of_expression-told_of_call-requires
told_of_expression-told_of_call-requires t c =
    let m = c.args.module.now in
    let parts = rw c.in-Call.is at c.expr.ensures.parts in
    let least = brackets_least (length m.names) c.args.e.index c.in-Call.arguments parts.1 in
    (omega (arith, c.decreases, least, parts.0), (omega (arith, parts.0, c.requires.expression), (brackets_up _ _ (omega arith) (length m.names) c.in-Call.arguments parts.1, c.requires.sized)))

pub told_of_expression-returns-in_default : goal.told_of_expression-returns-in_default
told_of_expression-returns-in_default t c =
    let m = c.args.module.now in
    let parts = rw c.expr.ensures.tree at c.told_of_parts.ensures in
    let whole = walks_then m.names _ _ _ _ _ _ _ _ (walks_told m.names c.args.scope.now c.args.told c.unless_called.result (unless_called c.args.place) c.unless_called.ensures) parts in
    rw c.expr.ensures.tree (walks_as m.names _ _ _ _ _ _ (λ s p. with_parts m.names (shown m) c.args.place s c.expr.result.now c.in_default.not-Name c.in_default.not-Group c.in_default.not-Attribute c.in_default.not-Call) whole)

pub told_of_generator-returns : goal.told_of_generator-returns
told_of_generator-returns t c =
    let m = c.args.module.now in
    let g = c.args.generator.now in
    let x = text_of m.names g.variable in
    let here : Tells c.args.told c.told_if-told.result (refused_if (is_private x) c.args.line Form) = rw (text_is m.names g.variable c.name_text.result.now c.name_text.ensures.text, ← c.is_private-is_private.ensures) c.told_if-told.ensures in
    let outside = walks_then m.names _ _ _ _ _ _ _ (λ s. uses Walked s (shown m g.iterable.index)) (walks_told m.names c.args.scope.now _ _ _ here) c.told_of_expression-told.ensures in
    let conditions = rw c.deref.ensures.value at c.told_of_items-told.ensures in
    let inside = walks_then m.names _ _ _ _ _ _ (λ s. uses Read s (shown m g.element.index)) _ c.told_of_expression-told-2.ensures conditions in
    let inner = walks_inner m.names c.told_of_expression-told.new.scope _ _ g.variable c.is_variable-was_variable.result _ _ _ c.name_text.ensures.«module».distinct c.requires.generator.variable
    (sized_on m.names c.args.scope.now _ c.told_of_expression-told.ensures.same c.requires.sized) c.is_variable-was_variable.ensures c.set_variable-2.ensures (rw c.set_variable.ensures at inside) in
    walks_as m.names _ _ _ _ _ _ (λ s p. sym (append_assoc (refused_if (is_private x) c.args.line Form ++ uses Walked s (shown m g.iterable.index)) (uses Read (with_locals (x ∷ []) s) (shown m g.element.index)) (uses_in (with_locals (x ∷ []) s) (items_tree (shown m) g.conditions.items))))
    (walks_then m.names _ _ _ _ _ _ _ _ outside inner)

-- ---- calls and attributes

pub told_of_second-returns : goal.told_of_second-returns
told_of_second-returns t c =
    let m = c.args.module.now in
    let asked : Tells c.args.told c.told_if-told.result (refused_if (is_isinstance c.args.function) c.args.line Form) = rw (← c.is_isinstance.ensures) c.told_if-told.ensures in
    let whole = walks_then m.names _ _ _ _ _ _ _ (λ s. uses Read s (shown m c.args.second.index)) (walks_told m.names c.args.scope.now _ _ _ asked) c.told_of_expression.ensures in
    walks_as m.names _ _ _ _ _ _ (λ s p. rw (← c.stands_for.ensures s p, ← c.is_asked_for.ensures, c.if-is_asked_for.false) refl) whole

pub told_of_arguments-returns-in-len1 : goal.told_of_arguments-returns-in-len1
told_of_arguments-returns-in-len1 t c =
    let m = c.args.module.now in
    let xs = c.args.arguments.now in
    let sole = rw c.place_of_sole.ensures at c.told_of_expression.ensures in
    walks_as m.names _ _ _ _ _ _ (λ s p. sole_told m c.args.line c.args.function s xs c.in-len1.len_at_least c.in-len1.len_below) sole

pub told_of_arguments-returns-in-len2-up : goal.told_of_arguments-returns-in-len2-up
told_of_arguments-returns-in-len2-up t c =
    let m = c.args.module.now in
    let xs = c.args.arguments.now in
    let whole = walks_then m.names _ _ _ _ _ _ _ (λ s. uses_in_rest s (argument_list_tree m.names (shown m) (take (length xs - 2) (drop 2 xs))))
    (walks_then m.names _ _ _ _ _ _ (λ s. uses Read s (shown m (get_or xs 0 no_argument).value.index)) (λ s. uses_in_second s c.args.line c.args.function (shown m (get_or xs 1 no_argument).value.index)) c.told_of_expression-told.ensures c.told_of_second-told.ensures) c.told_of_rest.ensures in
    walks_as m.names _ _ _ _ _ _ (λ s p. more_told m c.args.line c.args.function s xs c.in-len2-up.len_at_least) whole

pub told_of_brackets-returns-in-Listed : goal.told_of_brackets-returns-in-Listed
told_of_brackets-returns-in-Listed t c =
    let m = c.args.module.now in
    let xs = c.in-Listed.arguments.items in
    let words = keywords (argument_list_tree m.names (shown m) xs) in
    let repeated : Tells c.args.told c.told_if-told-in-Listed.result (refused_if (are_repeated [] words) c.args.line Duplicate) = rw (← c.deref.ensures.value, ← c.are_repeated-is_repeated.ensures.repeated) c.told_if-told-in-Listed.ensures in
    let hidden : Tells c.told_if-told-in-Listed.result c.told_if-told-in-Listed-2.result (refused_if (list_any is_private words) c.args.line Form) = rw (← c.deref-in-Listed.ensures.value, ← c.are_private-is_private.ensures) c.told_if-told-in-Listed-2.ensures in
    let misused : Tells c.told_if-told-in-Listed-2.result c.told_if-told-in-Listed-3.result (refused_if (is_misused c.args.function (argument_list_tree m.names (shown m) xs)) c.args.line Form) = rw (← c.deref-in-Listed-2.ensures.value, ← c.is_misused-is_misused.ensures) c.told_if-told-in-Listed-3.ensures in
    let before = walks_told m.names c.args.scope.now _ _ _ (tells_then _ _ _ _ _ (tells_then _ _ _ _ _ repeated hidden) misused) in
    let same : Walks m.names c.args.scope.now c.are_repeated-is_repeated.new.self c.args.told _ _ = rw c.are_repeated-is_repeated.ensures.same before in
    let behind = rw c.deref-in-Listed-3.ensures.value at c.told_of_arguments.ensures in
    rw c.in-Listed.is (walks_then m.names _ _ _ _ _ _ _ _ same behind)

pub told_of_call-returns : goal.told_of_call-returns
told_of_call-returns t c =
    let m = c.args.module.now in
    let f = shown m c.args.function.index in
    let xs = arguments_tree m.names (shown m) c.args.brackets.now in
    let misplaced = walks_told m.names c.args.scope.now _ _ _ (rw c.is_misplaced-is_misplaced.ensures at c.told_if-told.ensures) in
    let before = walks_then m.names _ _ _ _ _ _ _ _ (walks_told m.names c.args.scope.now c.args.told c.unless_called-told.result (unless_called c.args.place) c.unless_called-told.ensures) misplaced in
    let function = walks_then m.names _ _ _ _ _ _ _ (λ s. uses (Called c.args.line) s f) before c.told_of_expression-told.ensures in
    let whole = walks_then m.names _ _ _ _ _ _ _ (λ s. uses_in_call s c.args.line c.builtin_in-builtin.result xs) function c.told_of_brackets.ensures in
    walks_as m.names _ _ _ _ _ _ (λ s p. ap (λ (b : Option Builtin). unless_called c.args.place ++ refused_if (is_range b && not (is_walked c.args.place)) c.args.line Form ++ uses (Called c.args.line) s f ++ uses_in_call s c.args.line b xs) (c.builtin_in-builtin.ensures ∙ ap builtin_in (c.stands_for.ensures s p))) whole

pub told_of_attribute-returns : goal.told_of_attribute-returns
told_of_attribute-returns t c =
    let m = c.args.module.now in
    let x = text_of m.names c.args.name in
    let hidden : Tells c.args.told c.told_if-told.result (refused_if (is_private x) c.args.line Form) = rw (text_is m.names c.args.name c.name_text.result.now c.name_text.ensures.text, ← c.is_private-is_private.ensures) c.told_if-told.ensures in
    let whole = walks_then m.names _ _ _ _ _ _ _ (λ s. uses Read s (shown m c.args.object.index)) (walks_told m.names c.args.scope.now _ _ _ hidden) c.told_of_expression.ensures in
    walks_as m.names _ _ _ _ _ _ (λ s p. rw (← c.stands_for.ensures s p, ← c.is_old_read.ensures, c.if-is_old_read.false) refl) whole
