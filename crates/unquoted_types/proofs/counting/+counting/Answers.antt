use Rattle.std.proofs.Common.{arith}
use Rattle.py_tree.proofs.TypeNodes.{types_more}
use Rattle.unquoted_types.proofs.Measures.{above_least, no_type, type_above, type_there}
use Rattle.unquoted_types.proofs.counting.+counting.Goals as goal

pub all_letters-letters-requires : goal.all_letters-letters-requires
all_letters-letters-requires t c =
    let here = type_above c.args.types.now c.loop-t.t-index no_type c.loop-t-test.true in
    (omega (arith, c.decreases, here), type_there _ c.args.types.now c.loop-t.t-index no_type c.requires c.loop-t-test.true)

pub letters-all_letters-requires : goal.letters-all_letters-requires
letters-all_letters-requires t c =
    let parts = rw c.in-Name.is at c.type_node.ensures.parts in
    let least = above_least c.args.t.index c.in-Name.arguments.items parts.1 in
    rw c.deref.ensures.value (omega (arith, c.decreases, least), types_more _ _ (omega arith) c.in-Name.arguments.items parts.1)

pub letters-all_letters-requires-in-Union : goal.letters-all_letters-requires-in-Union
letters-all_letters-requires-in-Union t c =
    let parts = rw c.in-Union.is at c.type_node.ensures.parts in
    let least = above_least c.args.t.index c.in-Union.rest.items parts.1 in
    rw c.deref-in-Union.ensures.value (omega (arith, c.decreases, least), types_more _ _ (omega arith) c.in-Union.rest.items parts.1)
