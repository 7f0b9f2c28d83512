use Rattle.std.proofs.Common.{◌≡◌, ◌∙◌, ◌++◌, List, take, ap, arith}
use Rattle.std.proofs.lemmas.List.{take_all}
use Rattle.std.specs.List.{flat_map}
use Rattle.spec_types.specs.Names.{type_name}
use Rattle.spec_types.specs.Types.{ValueType, spoken, type_in, types_in}
use Rattle.py_tree.specs.Arena.{module_tree, shown_type}
use Rattle.py_tree.specs.Types.{types_tree}
use Rattle.py_tree.proofs.TypeNodes.{types_more}
use Rattle.value_types.proofs.Listed.{type_at, types_length}
use Rattle.value_types.proofs.Measures.{above_least, no_type, type_above, type_there}
use Rattle.value_types.proofs.Named.{name_is}
use Rattle.value_types.proofs.Spoken.{by_brackets, by_union, spoken_more}
use Rattle.value_types.proofs.classes.+spoken.Goals as goal

pub add_all_spoken-add_spoken-requires : goal.add_all_spoken-add_spoken-requires
add_all_spoken-add_spoken-requires t c =
    let here = type_above c.args.types.now c.loop-t.t-index no_type c.loop-t-test.true in
    (omega (arith, c.decreases, here), (c.requires.names, type_there _ c.args.types.now c.loop-t.t-index no_type c.requires.types c.loop-t-test.true))

pub add_all_spoken-loop-t-preserved : goal.add_all_spoken-loop-t-preserved
add_all_spoken-loop-t-preserved t c = λ vs e.
    let named = type_name (module_tree c.args.module.now).body in
    let trees = shown_type c.args.module.now in
    let size = types_length named trees c.args.types.now vs e in
    let at = type_at named trees c.args.types.now c.loop-t.t-index no_type vs c.loop-t-test.true e in
    spoken_more vs c.loop-t.t-index c.args.into.now.items c.loop-t.into.items c.add_spoken.new.into.items (omega (arith, size, c.loop-t-test.true)) (c.loop-t.invariant vs e) (c.in_ok-add_spoken.ensures _ at)

pub add_all_spoken-returns : goal.add_all_spoken-returns
add_all_spoken-returns t c = λ vs e.
    let size = types_length (type_name (module_tree c.args.module.now).body) (shown_type c.args.module.now) c.args.types.now vs e in
    let all : take c.loop-t.t-index vs ≡ vs = take_all c.loop-t.t-index vs (omega (arith, size, c.loop-t-test.false)) in
    c.loop-t.invariant vs e ∙ ap (λ (us : List ValueType). c.args.into.now.items ++ flat_map spoken us) all

pub add_spoken-add_all_spoken-requires : goal.add_spoken-add_all_spoken-requires
add_spoken-add_all_spoken-requires t c =
    let parts = rw c.in-Name.is at c.type_node.ensures.parts in
    let least = above_least c.args.t.index c.in-Name.arguments.items parts.1 in
    rw c.deref.ensures.value (omega (arith, c.decreases, least), (c.requires.names, types_more _ _ (omega arith) c.in-Name.arguments.items parts.1))

pub add_spoken-add_all_spoken-requires-in-Union : goal.add_spoken-add_all_spoken-requires-in-Union
add_spoken-add_all_spoken-requires-in-Union t c =
    let parts = rw c.in-Union.is at c.type_node.ensures.parts in
    let least = above_least c.args.t.index c.in-Union.rest.items parts.1 in
    rw c.deref-in-Union.ensures.value (omega (arith, c.decreases, least), (c.requires.names, types_more _ _ (omega arith) c.in-Union.rest.items parts.1))

pub add_spoken-returns-in_default : goal.add_spoken-returns-in_default
add_spoken-returns-in_default t c = λ v e.
    let parts = rw c.in-Name.is at c.type_node.ensures.parts in
    let tree = rw c.in-Name.is at c.type_node.ensures.tree in
    let body = type_name (module_tree c.args.module.now).body in
    let named = name_is body c.args.module.now.names c.args.names.now c.in-Name.name c.requires.names parts.0 in
    by_brackets c.add_all_spoken.result _ (types_in body (types_tree (shown_type c.args.module.now) c.in-Name.arguments.items)) c.args.into.now.items c.add_all_spoken.new.into.items v (rw named at c.in_default.not-Class) (rw c.deref.ensures.value at c.add_all_spoken.ensures) (rw tree at e)

pub add_spoken-returns-in_ok-add_spoken-in-Union : goal.add_spoken-returns-in_ok-add_spoken-in-Union
add_spoken-returns-in_ok-add_spoken-in-Union t c = λ v e.
    let tree = rw c.in-Union.is at c.type_node.ensures.tree in
    let body = type_name (module_tree c.args.module.now).body in
    by_union c.add_all_spoken-in-Union.result (type_in body (shown_type c.args.module.now c.in-Union.first.index)) (types_in body (types_tree (shown_type c.args.module.now) c.in-Union.rest.items)) c.args.into.now.items c.add_spoken.new.into.items c.add_all_spoken-in-Union.new.into.items v c.in_ok-add_spoken-in-Union.ensures (rw c.deref-in-Union.ensures.value at c.add_all_spoken-in-Union.ensures) (rw tree at e)
