use Rattle.std.proofs.Common.{◌∙◌, ap, sym, arith}
use Rattle.std.specs.Option.{option_map}
use Rattle.spec_types.specs.Names.{type_name}
use Rattle.spec_types.specs.Types.{ValueType, type_in, types_in}
use Rattle.spec_types.specs.Widths.{width_in}
use Rattle.py_tree.specs.Arena.{module_tree, shown_type}
use Rattle.py_tree.specs.Names.{text_of}
use Rattle.py_tree.specs.Types.{types_tree}
use Rattle.py_tree.proofs.TypeNodes.{types_more}
use Rattle.value_types.specs.Widths.{capped}
use Rattle.value_types.proofs.Listed.{type_at, types_length}
use Rattle.value_types.proofs.Measures.{above_least, no_type, type_above, type_there}
use Rattle.value_types.proofs.Named.{class_below, name_is}
use Rattle.value_types.proofs.WidthParts.{behind_none, by_list_or_dict, by_option, first_at, first_behind, no_other, other_first, total_all, total_more}
use Rattle.value_types.proofs.widths.+widths.Goals as goal

pub total-width-requires : goal.total-width-requires
total-width-requires t c =
    let here = type_above c.args.types.now c.loop-t.t-index no_type c.loop-t-test.true in
    (omega (arith, c.decreases, here), (c.requires.names, (type_there _ c.args.types.now c.loop-t.t-index no_type c.requires.types c.loop-t-test.true, c.requires.classes)))

pub total-loop-t-preserved : goal.total-loop-t-preserved
total-loop-t-preserved t c = λ vs e of_class a.
    let named = type_name (module_tree c.args.module.now).body in
    let trees = shown_type c.args.module.now in
    let size = types_length named trees c.args.types.now vs e in
    let at = type_at named trees c.args.types.now c.loop-t.t-index no_type vs c.loop-t-test.true e in
    c.sum-total.ensures ∙ total_more c.args.max_len of_class vs c.loop-t.t-index c.loop-t.total c.width.result (omega (arith, size, c.loop-t-test.true)) (c.loop-t.invariant vs e of_class a) (c.width.ensures _ at of_class a)

pub total-returns : goal.total-returns
total-returns t c = λ vs e of_class a.
    let size = types_length (type_name (module_tree c.args.module.now).body) (shown_type c.args.module.now) c.args.types.now vs e in
    total_all c.args.max_len of_class vs c.loop-t.t-index c.loop-t.total (omega (arith, size, c.loop-t-test.false)) (c.loop-t.invariant vs e of_class a)

pub other_width-is_none-requires-clause-there : goal.other_width-is_none-requires-clause-there
other_width-is_none-requires-clause-there t c = type_there _ c.args.types.now c.loop-t.t-index no_type c.requires.types c.loop-t-test.true

pub other_width-width-requires : goal.other_width-width-requires
other_width-width-requires t c =
    let here = type_above c.args.types.now c.loop-t.t-index no_type c.loop-t-test.true in
    (omega (arith, c.decreases, here), (c.requires.names, (type_there _ c.args.types.now c.loop-t.t-index no_type c.requires.types c.loop-t-test.true, c.requires.classes)))

pub other_width-returns-then-not-is_none : goal.other_width-returns-then-not-is_none
other_width-returns-then-not-is_none t c = λ vs e of_class a.
    let named = type_name (module_tree c.args.module.now).body in
    let trees = shown_type c.args.module.now in
    let size = types_length named trees c.args.types.now vs e in
    let at = type_at named trees c.args.types.now c.loop-t.t-index no_type vs c.loop-t-test.true e in
    let first = first_at vs c.loop-t.t-index (omega (arith, size, c.loop-t-test.true)) (c.loop-t.invariant vs e) (sym (c.is_none.ensures _ at) ∙ c.if-not-is_none.true) in
    c.width.ensures _ at of_class a ∙ ap (λ (v : ValueType). option_map capped (width_in c.args.max_len of_class v)) (sym first)

pub other_width-loop-t-preserved : goal.other_width-loop-t-preserved
other_width-loop-t-preserved t c = λ vs e.
    let named = type_name (module_tree c.args.module.now).body in
    let trees = shown_type c.args.module.now in
    let size = types_length named trees c.args.types.now vs e in
    let at = type_at named trees c.args.types.now c.loop-t.t-index no_type vs c.loop-t-test.true e in
    first_behind vs c.loop-t.t-index (omega (arith, size, c.loop-t-test.true)) (c.loop-t.invariant vs e) (sym (c.is_none.ensures _ at) ∙ c.if-not-is_none.false)

pub other_width-returns : goal.other_width-returns
other_width-returns t c = λ vs e of_class a.
    let size = types_length (type_name (module_tree c.args.module.now).body) (shown_type c.args.module.now) c.args.types.now vs e in
    ap (λ (v : ValueType). option_map capped (width_in c.args.max_len of_class v)) (sym (no_other vs c.loop-t.t-index (omega (arith, size, c.loop-t-test.false)) (c.loop-t.invariant vs e)))

pub width-width_with-requires : goal.width-width_with-requires
width-width_with-requires t c =
    let parts = rw c.in-Name.is at c.type_node.ensures.parts in
    let least = above_least c.args.t.index c.in-Name.arguments.items parts.1 in
    let body = (module_tree c.args.module.now).body in
    let named = name_is (type_name body) c.args.module.now.names c.args.names.now c.in-Name.name c.requires.names parts.0 in
    rw c.deref.ensures.value (omega (arith, c.decreases, least), (c.requires.names, (λ k e. rw c.requires.classes (class_below body (text_of c.args.module.now.names c.in-Name.name) k (sym named ∙ e)), (types_more _ _ (omega arith) c.in-Name.arguments.items parts.1, c.requires.classes))))

pub width-other_width-requires : goal.width-other_width-requires
width-other_width-requires t c =
    let parts = rw c.in-Union.is at c.type_node.ensures.parts in
    let least = above_least c.args.t.index c.in-Union.rest.items parts.1 in
    rw c.deref-then-is_none.ensures.value (omega (arith, c.decreases, least), (c.requires.names, (types_more _ _ (omega arith) c.in-Union.rest.items parts.1, c.requires.classes)))

pub width-returns-in-Name : goal.width-returns-in-Name
width-returns-in-Name t c = λ v e of_class a.
    let parts = rw c.in-Name.is at c.type_node.ensures.parts in
    let tree = rw c.in-Name.is at c.type_node.ensures.tree in
    let named = name_is (type_name (module_tree c.args.module.now).body) c.args.module.now.names c.args.names.now c.in-Name.name c.requires.names parts.0 in
    (rw (named, c.deref.ensures.value) at c.width_with.ensures) v (rw tree at e) of_class a

pub width-returns-then-is_none : goal.width-returns-then-is_none
width-returns-then-is_none t c = λ v e of_class a.
    let tree = rw c.in-Union.is at c.type_node.ensures.tree in
    let named = type_name (module_tree c.args.module.now).body in
    let trees = shown_type c.args.module.now in
    let rest = rw c.deref-then-is_none.ensures.value at c.other_width.ensures in
    behind_none c.args.max_len of_class (type_in named (trees c.in-Union.first.index)) (types_in named (types_tree trees c.in-Union.rest.items)) v c.other_width.result (λ u f. sym c.if-is_none.true ∙ c.is_none.ensures u f) (λ us f. rest us f of_class a) (rw tree at e)

pub width-returns-else-is_none : goal.width-returns-else-is_none
width-returns-else-is_none t c = λ v e of_class a.
    let tree = rw c.in-Union.is at c.type_node.ensures.tree in
    let named = type_name (module_tree c.args.module.now).body in
    let trees = shown_type c.args.module.now in
    other_first c.args.max_len of_class (type_in named (trees c.in-Union.first.index)) (types_in named (types_tree trees c.in-Union.rest.items)) v c.width.result (λ u f. sym c.if-is_none.false ∙ c.is_none.ensures u f) (λ u f. c.width.ensures u f of_class a) (rw tree at e)

pub width_with-returns-in-List : goal.width_with-returns-in-List
width_with-returns-in-List t c = λ v e of_class a.
    let types = types_in (type_name (module_tree c.args.module.now).body) (types_tree (shown_type c.args.module.now) c.args.arguments.now) in
    c.times.ensures ∙ by_list_or_dict c.args.max_len of_class types c.total.result (λ ts f. c.total.ensures ts f of_class a) c.args.name c.in-List.is v e

pub width_with-returns-in-Optional : goal.width_with-returns-in-Optional
width_with-returns-in-Optional t c = λ v e of_class a. by_option c.args.max_len of_class (types_in (type_name (module_tree c.args.module.now).body) (types_tree (shown_type c.args.module.now) c.args.arguments.now)) c.total-in-Optional.result (λ ts f. c.total-in-Optional.ensures ts f of_class a) v (rw c.in-Optional.is at e)
