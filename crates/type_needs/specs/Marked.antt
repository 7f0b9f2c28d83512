-- Marks of classes, and functions that have them.
use Rattle.std.specs.Prelude.{ℕ, Bool, false, List, length, get_or, Option, Some, None}
use Rattle.std.specs.List.{All}
use Rattle.py_tree.specs.Arena.{State}
use Rattle.given_types.specs.Giving.{IsClassBelow, IsGiven}
use Rattle.given_types.specs.declared.Signature.{Signature}

-- whether the class of this number is marked
abbrev pub marked : List Bool → ℕ → Bool
marked marks k = get_or marks k false

abbrev pub is_marked : List Bool → Option ℕ → Bool
is_marked marks None = false
is_marked marks (Some k) = marked marks k

-- each class of a function has a mark
abbrev pub HaveMarks : List Bool → List Signature → Type 0
HaveMarks marks ss = All (λ (s : Signature). IsClassBelow (length marks) s.class) ss

-- what is known of the parameters of functions is a type
abbrev pub HaveGiven : State → List Signature → Type 0
HaveGiven m ss = All (λ (s : Signature). All (IsGiven m) s.types.items) ss
