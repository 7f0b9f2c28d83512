-- The first call at which a function of calls answers, by its place.
use Rattle.std.specs.Prelude.{◌≡◌, ℕ, ◌<◌, List, Option, Some, None}
use Rattle.std.specs.List.{slice_get}
use Rattle.spec_calls.specs.Calls.{Call}

-- c is the first of the calls at which there is an answer, and x is the answer
pub record FirstAt {X : Type 0} (answer : Call → Option X) (cs : List Call) (c : Call) (x : X) : Type 0 where
  pub place : ℕ
  pub here : slice_get cs place ≡ Some c
  pub answers : answer c ≡ Some x
  pub none_before : (i : ℕ) (d : Call) → i < place → slice_get cs i ≡ Some d → answer d ≡ None

-- there is an answer at no call
abbrev pub Nowhere : {X : Type 0} → (Call → Option X) → List Call → Type 0
Nowhere answer cs = (i : ℕ) (d : Call) → slice_get cs i ≡ Some d → answer d ≡ None
