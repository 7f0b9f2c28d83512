use Rattle.std.proofs.Common.{◌≡◌, length}
use Rattle.spec_syntax.specs.Placement.{smallest}
use Rattle.py_outline.specs.Orders.{order_faults}
use Rattle.py_outline.proofs.Ends.{last_items}
use Rattle.py_outline.proofs.Following.{Shows}
use Rattle.py_outline.proofs.orders.order_fault.Given as goal

abbrev pub invariant-loop-outline : goal.invariant-loop-outline
invariant-loop-outline l = record {
  told : l.told ≡ smallest (order_faults (last_items (length l.yielded) l.outlines));
  shown : Shows l.behind (last_items (length l.yielded) l.outlines);
}
