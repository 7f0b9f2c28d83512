use Rattle.std.proofs.Common.{◌≡◌, ◌∙◌, length, ap, arith}
use Rattle.spec_types.specs.Names.{type_name}
use Rattle.spec_types.specs.Types.{type_in, types_in}
use Rattle.py_tree.specs.Arena.{module_tree, shown_type}
use Rattle.py_tree.specs.Types.{types_tree}
use Rattle.py_tree.proofs.TypeNodes.{types_more}
use Rattle.value_types.proofs.Arities.{arity, no_type_with, plain}
use Rattle.value_types.proofs.Measures.{above_least, no_type, type_above, type_there}
use Rattle.value_types.proofs.Named.{name_is}
use Rattle.value_types.proofs.Unions.{joined_is}
use Rattle.value_types.proofs.kinds.+kinds.Goals as goal

pub kind-kind_with-requires : goal.kind-kind_with-requires
kind-kind_with-requires t c =
    let parts = rw c.in-Name.is at c.type_node.ensures.parts in
    let least = above_least c.args.t.index c.in-Name.arguments.items parts.1 in
    rw c.deref.ensures.value (omega (arith, c.decreases, least), (c.requires.names, types_more _ _ (omega arith) c.in-Name.arguments.items parts.1))

pub kind-others_count-requires : goal.kind-others_count-requires
kind-others_count-requires t c =
    let parts = rw c.in-Union.is at c.type_node.ensures.parts in
    let least = above_least c.args.t.index c.in-Union.rest.items parts.1 in
    rw c.deref-in-Union.ensures.value (omega (arith, c.decreases, least), (c.requires.names, types_more _ _ (omega arith) c.in-Union.rest.items parts.1))

pub kind-returns-in-Name : goal.kind-returns-in-Name
kind-returns-in-Name t c =
    let parts = rw c.in-Name.is at c.type_node.ensures.parts in
    let tree = rw c.in-Name.is at c.type_node.ensures.tree in
    let named = name_is (type_name (module_tree c.args.module.now).body) c.args.module.now.names c.args.names.now c.in-Name.name c.requires.names parts.0 in
    rw tree (rw (named, c.deref.ensures.value) at c.kind_with.ensures)

pub kind-returns-in-Union : goal.kind-returns-in-Union
kind-returns-in-Union t c =
    let tree = rw c.in-Union.is at c.type_node.ensures.tree in
    let named = type_name (module_tree c.args.module.now).body in
    let trees = shown_type c.args.module.now in
    rw tree (rw (c.kind.ensures, c.others_count.ensures, c.deref-in-Union.ensures.value) at c.joined_kind.ensures ∙ joined_is (type_in named (trees c.in-Union.first.index)) (types_in named (types_tree trees c.in-Union.rest.items)))

pub kind_with-returns-in_default : goal.kind_with-returns-in_default
kind_with-returns-in_default t c = no_type_with (type_name (module_tree c.args.module.now).body) (shown_type c.args.module.now) c.args.name c.args.arguments.now (λ e. let f : length c.args.arguments.now ≡ 0 = e ∙ plain c.args.name c.in_default.not-List-0 c.in_default.not-Dict-0 c.in_default.not-Optional-0 in omega arith)

pub kind_with-returns-in_default-2 : goal.kind_with-returns-in_default-2
kind_with-returns-in_default-2 t c = no_type_with (type_name (module_tree c.args.module.now).body) (shown_type c.args.module.now) c.args.name c.args.arguments.now (λ e. let f : length c.args.arguments.now ≡ 0 = e ∙ ap arity c.in_default.is-0 in omega arith)

pub kind_with-returns-in_default-4 : goal.kind_with-returns-in_default-4
kind_with-returns-in_default-4 t c = no_type_with (type_name (module_tree c.args.module.now).body) (shown_type c.args.module.now) c.args.name c.args.arguments.now (λ e. let f : length c.args.arguments.now ≡ 1 = e ∙ ap arity c.in_default.is-0 in omega arith)

pub kind_with-returns-in_default-6 : goal.kind_with-returns-in_default-6
kind_with-returns-in_default-6 t c = no_type_with (type_name (module_tree c.args.module.now).body) (shown_type c.args.module.now) c.args.name c.args.arguments.now (λ e. let f : length c.args.arguments.now ≡ 1 = e ∙ ap arity c.in_default.is-0 in omega arith)

pub kind_with-returns-in_default-7 : goal.kind_with-returns-in_default-7
kind_with-returns-in_default-7 t c = no_type_with (type_name (module_tree c.args.module.now).body) (shown_type c.args.module.now) c.args.name c.args.arguments.now (λ e. let f : length c.args.arguments.now ≡ 2 = e ∙ ap arity c.in_default.is-0 in omega arith)

pub kind_with-returns-in_default-8 : goal.kind_with-returns-in_default-8
kind_with-returns-in_default-8 t c = no_type_with (type_name (module_tree c.args.module.now).body) (shown_type c.args.module.now) c.args.name c.args.arguments.now (λ e. let f : length c.args.arguments.now ≡ 2 = e ∙ ap arity c.in_default.is-0 in omega arith)

pub others_count-kind-requires : goal.others_count-kind-requires
others_count-kind-requires t c =
    let here = type_above c.args.types.now c.loop-t.t-index no_type c.loop-t-test.true in
    (omega (arith, c.decreases, here), (c.requires.names, type_there _ c.args.types.now c.loop-t.t-index no_type c.requires.types c.loop-t-test.true))
