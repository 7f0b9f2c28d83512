use Rattle.std.proofs.Common.{◌≡◌, length}
use Rattle.py_outline.specs.Orders.{from_next}
use Rattle.py_outline.proofs.orders.drop_deeper.Given as goal

abbrev pub invariant-loop-outline : goal.invariant-loop-outline
invariant-loop-outline l = from_next l.depth l.behind ≡ from_next l.depth l.initial.behind

abbrev pub decreases-loop-outline : goal.decreases-loop-outline
decreases-loop-outline l = length l.behind
