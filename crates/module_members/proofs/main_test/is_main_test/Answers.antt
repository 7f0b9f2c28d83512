use Rattle.std.proofs.Common.{arith}
use Rattle.py_tree.proofs.Nodes.{links_more}
use Rattle.module_members.proofs.main_test.is_main_test.Goals as goal

pub is_main_link-requires : goal.is_main_link-requires
is_main_link-requires c =
    let parts = rw c.in-Chain.is at c.expr.ensures.parts in
    rw c.deref.ensures.value (links_more _ _ (omega arith) c.in-Chain.links.items parts.1)
