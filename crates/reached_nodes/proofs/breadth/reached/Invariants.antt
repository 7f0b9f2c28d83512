use Rattle.std.proofs.Common.{ℕ, ◌-◌, Global, length, map}
use Rattle.std.specs.Prelude.{Vec}
use Rattle.reached_nodes.specs.Visits.{IsSearch}
use Rattle.reached_nodes.proofs.Rounds.{Found}
use Rattle.reached_nodes.proofs.breadth.reached.Given as goal

abbrev pub invariant-loop-next : goal.invariant-loop-next
invariant-loop-next l = IsSearch (length l.edges) l.search.marks.items l.search.queue.items
    × Found (map (λ (e : Vec ℕ Global). e.items) l.edges) l.seeds l.search.queue.items l.next

abbrev pub decreases-loop-next : goal.decreases-loop-next
decreases-loop-next l = length l.edges - l.next
