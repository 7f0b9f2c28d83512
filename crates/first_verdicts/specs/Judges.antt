-- What judging one call answers for a condition.
use Rattle.std.specs.Prelude.{◌≡◌, Bool, true, false, List, ℤ, [], map, Option, Some, None}
use Rattle.spec_first_trees.specs.declared.LimitKind.{LimitKind}
use Rattle.spec_first_trees.specs.Bounds.{Bounds}
use Rattle.spec_first_trees.specs.Program.{Function, Condition}
use Rattle.spec_running.specs.declared.Value.{Value}
use Rattle.spec_running.specs.declared.Outcome.{Outcome}
use Rattle.spec_calls.specs.Calls.{Call, Number, made}
use Rattle.spec_verdicts.specs.Judging.{Judged, body_of, on_body}
use Rattle.spec_verdicts.specs.Judging as judging
use Rattle.spec_verdicts.specs.Breaking.{broken, limited, is_unmet, is_unmet_at, fault_of, limit_of, line_fault, line_limit}
use Rattle.spec_verdicts.specs.Breaking as breaking
use Rattle.first_verdicts.specs.declared.judging.Preconditions.{Preconditions}
use Rattle.first_verdicts.specs.declared.judging.Preconditions.TheVariants as preconditions
use Rattle.first_verdicts.specs.declared.judging.Judgement.{Judgement}
use Rattle.first_verdicts.specs.declared.judging.Judgement.TheVariants.{Unmet, Held, Broken, Limited}
use Rattle.first_verdicts.specs.Meaning.{fault_in}

-- the call with these arguments
abbrev pub call_of : List ℤ → Call
call_of arguments = map Number arguments

-- what the preconditions decide, where they decide
abbrev pub decided_by : Preconditions → Option Judged
decided_by preconditions.Met = None
decided_by preconditions.Unmet = Some judging.Unmet
decided_by (preconditions.Limited kind) = Some (judging.Limited kind)

abbrev pub broken_by : Judgement → Option breaking.Fault
broken_by Unmet = None
broken_by Held = None
broken_by (Broken fault) = Some (fault_in fault)
broken_by (Limited kind) = None

abbrev pub limited_by : Judgement → Option LimitKind
limited_by Unmet = None
limited_by Held = None
limited_by (Broken fault) = None
limited_by (Limited kind) = Some kind

abbrev pub unmet_by : Judgement → Bool
unmet_by Unmet = true
unmet_by Held = false
unmet_by (Broken fault) = false
unmet_by (Limited kind) = false

-- the body ends so in this call, with nothing on the heap
pub record EndsBody (f : Function) (c : Call) (bounds : Bounds) (outcome : Outcome) : Type 0 where
  pub is : (body_of f (map made c) bounds).outcome ≡ outcome
  pub heap : (body_of f (map made c) bounds).after.heap ≡ []

-- the judgement says what breaks the condition in a call that was judged so, what limits it, and whether the call is unmet
pub record Tells (f : Function) (k : Condition) (bounds : Bounds) (c : Call) (j : Judged) (judgement : Judgement) : Type 0 where
  pub broken : fault_of f k c bounds j ≡ broken_by judgement
  pub limited : limit_of f k c bounds j ≡ limited_by judgement
  pub unmet : is_unmet_at j ≡ unmet_by judgement

-- what the body of a call leaves to judge
abbrev pub by_body : Function → Bounds → Call → Judged
by_body f bounds c = on_body (body_of f (map made c) bounds) (map made c) (body_of f (map made c) bounds).outcome

-- the same for a post line that ended with an outcome, where the body returned a value
pub record IsLineJudged (returned : Value) (outcome : Outcome) (judgement : Judgement) : Type 0 where
  pub broken : line_fault returned outcome ≡ broken_by judgement
  pub limited : line_limit outcome ≡ limited_by judgement
  pub met : unmet_by judgement ≡ false

-- the same for a class that the body raised
pub record IsRaiseJudged (fault : Option breaking.Fault) (judgement : Judgement) : Type 0 where
  pub broken : fault ≡ broken_by judgement
  pub limited : limited_by judgement ≡ None
  pub met : unmet_by judgement ≡ false

-- the judgement of the call with these arguments
pub record IsJudged (f : Function) (k : Condition) (bounds : Bounds) (c : Call) (judgement : Judgement) : Type 0 where
  pub broken : broken f k bounds c ≡ broken_by judgement
  pub limited : limited f k bounds c ≡ limited_by judgement
  pub unmet : is_unmet f bounds c ≡ unmet_by judgement
