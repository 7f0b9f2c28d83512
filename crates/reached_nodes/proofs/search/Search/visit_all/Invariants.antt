use Rattle.std.proofs.Common.{length, take}
use Rattle.reached_nodes.specs.Visits.{IsSearch, Visits}
use Rattle.reached_nodes.proofs.search.Search.visit_all.Given as goal

abbrev pub invariant-loop-node : goal.invariant-loop-node
invariant-loop-node l = IsSearch (length l.fn.self.marks.items) l.self.marks.items l.self.queue.items
    × Visits (length l.fn.self.marks.items) (take l.node-index l.nodes) l.fn.self.queue.items l.self.queue.items
