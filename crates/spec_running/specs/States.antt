-- The state in which trees are run, and what a run leaves.
use Rattle.std.specs.Prelude.{ℕ, List, [], ◌∷◌, Option, Some, None, if◌then◌else◌}
use Rattle.std.specs.Str.{bytes_eq}
use Rattle.spec_running.specs.declared.Value.{Value}
use Rattle.spec_running.specs.declared.Outcome.{Outcome}

-- what a reference leads to
pub data Object : Type 0 where
  Items : List Value → Object

abbrev pub Heap : Type 0
Heap = List Object

-- names with their values
abbrev pub Locals : Type 0
Locals = List (List ℕ × Value)

-- the value of a name; the first entry counts
abbrev pub local : Locals → List ℕ → Option Value
local [] name = None
local (entry ∷ locals) name = if bytes_eq entry.0 name then Some entry.1 else local locals name

pub record State : Type 0 where
  pub heap : Heap
  pub locals : Locals
  -- the steps that are left
  pub steps : ℕ
  -- the number of active calls
  pub active : ℕ
  -- the numbers of the statements that were executed
  pub statements : List ℕ

-- An outcome stands beside the state that it leaves. For an expression `Returned` says that it has that value.
pub record Ran : Type 0 where
  pub outcome : Outcome
  pub after : State
