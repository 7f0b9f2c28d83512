-- The nodes of a graph that are reached from some of them.
use Rattle.std.specs.Prelude.{ℕ, zero, suc, Bool, ◌==◌, List, [], ◌++◌, length, get_or}
use Rattle.std.specs.List.{list_any, flat_map}

-- a number is in a list
abbrev pub is_in : ℕ → List ℕ → Bool
is_in k xs = list_any (λ (x : ℕ). x == k) xs

-- Nodes have numbers from 0. To each belong the nodes to which an edge leads from it.
abbrev pub successors : List (List ℕ) → ℕ → List ℕ
successors edges k = get_or edges k []

-- the nodes that are reached from these by at most so many edges, one behind the other
abbrev pub reached_by : List (List ℕ) → List ℕ → ℕ → List ℕ
reached_by edges seeds zero = seeds
reached_by edges seeds (suc n) = reached_by edges seeds n ++ flat_map (successors edges) (reached_by edges seeds n)

-- No more edges are needed than there are nodes.
abbrev pub is_reached : List (List ℕ) → List ℕ → ℕ → Bool
is_reached edges seeds k = is_in k (reached_by edges seeds (length edges))
