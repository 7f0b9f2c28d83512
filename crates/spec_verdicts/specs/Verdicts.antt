-- The verdict of a condition over all calls within the bounds.
use Rattle.std.specs.Prelude.{Bool, List, [], ◌∷◌, Option, Some, None, if◌then◌else◌}
use Rattle.std.specs.List.{list_all}
use Rattle.spec_first_trees.specs.declared.LimitKind.{LimitKind}
use Rattle.spec_first_trees.specs.Bounds.{Bounds}
use Rattle.spec_first_trees.specs.Program.{Function, Condition}
use Rattle.spec_calls.specs.Calls.{Call, calls}
use Rattle.spec_verdicts.specs.Breaking.{Fault, broken, limited, is_unmet}

pub data Verdict : Type 0 where
  Error : Call → Fault → Verdict
  NotConfirmed : Call → LimitKind → Verdict
  Unmet : Verdict
  Confirmed : Verdict

abbrev pub with_call : {X : Type 0} → Call → Option X → Option (Call × X) → Option (Call × X)
with_call c (Some x) rest = Some (c, x)
with_call c None rest = rest

-- the first call at which f answers, with the answer
abbrev pub first_of : {X : Type 0} → (Call → Option X) → List Call → Option (Call × X)
first_of f [] = None
first_of f (c ∷ cs) = with_call c (f c) (first_of f cs)

abbrev pub undecided : Option (Call × LimitKind) → Bool → Verdict
undecided (Some x) unmet = NotConfirmed x.0 x.1
undecided None unmet = if unmet then Unmet else Confirmed

abbrev pub concluded : Option (Call × Fault) → Option (Call × LimitKind) → Bool → Verdict
concluded (Some x) limit unmet = Error x.0 x.1
concluded None limit unmet = undecided limit unmet

-- the first call that breaks the condition, else the first that is limited for it, else whether no call meets the preconditions
unfoldable pub verdict_over : Function → Condition → Bounds → List Call → Verdict
verdict_over f k bounds cs = concluded (first_of (broken f k bounds) cs) (first_of (limited f k bounds) cs) (list_all (is_unmet f bounds) cs)

unfoldable pub verdict : Function → Condition → Bounds → Verdict
verdict f k bounds = verdict_over f k bounds (calls f bounds)
