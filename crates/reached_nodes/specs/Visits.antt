-- What a search has found.
use Rattle.std.specs.Prelude.{◌≡◌, ℕ, ◌<◌, Bool, true, false, List, ◌++◌, length, get_or, if◌then◌else◌}
use Rattle.std.specs.List.{All, sum_by}
use Rattle.spec_types.specs.Reached.{is_in}

abbrev pub one_if : Bool → ℕ
one_if b = if b then 1 else 0

-- The queue has the nodes that are found, each once: there are as many marks as places in the queue.
pub record IsSearch (nodes : ℕ) (marks : List Bool) (queue : List ℕ) : Type 0 where
  pub size : length marks ≡ nodes
  pub marked : (k : ℕ) → k < nodes → get_or marks k false ≡ is_in k queue
  pub within : All (λ k. k < nodes) queue
  pub counted : sum_by one_if marks ≡ length queue

-- Behind the old queue stand some of these numbers, such that each of them that is a node is found.
pub record Visits (nodes : ℕ) (these old new : List ℕ) : Type 0 where
  pub added : List ℕ
  pub behind : new ≡ old ++ added
  pub given : (k : ℕ) → is_in k added ≡ true → is_in k these ≡ true
  pub all : (k : ℕ) → k < nodes → is_in k these ≡ true → is_in k new ≡ true
