-- What breaks a condition, and what limits it.
use Rattle.std.specs.Prelude.{Bool, List, true, false, [], ◌∷◌, ◌++◌, map, Option, Some, None, if◌then◌else◌}
use Rattle.spec_first_trees.specs.declared.ExcClass.{ExcClass}
use Rattle.spec_first_trees.specs.declared.LimitKind.{LimitKind}
use Rattle.spec_first_trees.specs.Bounds.{Bounds}
use Rattle.spec_first_trees.specs.Expr.{Expr}
use Rattle.spec_first_trees.specs.Classes.{is_permitted}
use Rattle.spec_first_trees.specs.Program.{Function, Condition, Raises, Post}
use Rattle.spec_running.specs.declared.Value.{Value}
use Rattle.spec_running.specs.declared.Outcome.{Outcome}
use Rattle.spec_running.specs.declared.Outcome.TheVariants.{Returned, Raised, Limit}
use Rattle.spec_running.specs.States.{Heap, Locals}
use Rattle.spec_running.specs.Operations.{truth}
use Rattle.spec_running.specs.Running.{eval, fresh, bound}
use Rattle.spec_calls.specs.Calls.{Call, made}
use Rattle.spec_forms.specs.Names.{returned_name}
use Rattle.spec_verdicts.specs.Judging.{Judged, Unmet, Limited, Ended, judged}

pub data Fault : Type 0 where
  -- the post line is false, where the body returned this value
  WasFalse : Value → Fault
  -- the body raised this class
  RaisedInBody : ExcClass → Fault
  -- the post line raised this class
  RaisedInPost : ExcClass → Fault

-- the names of a post line: the parameters with the objects that were passed, and the returned value
abbrev pub line_locals : Function → Call → Value → Locals
line_locals f c v = bound f.parameters (map made c) ++ (returned_name, v) ∷ []

-- A post line is run from the heap after the body with a fresh budget, and its effects are thrown away.
abbrev pub line_outcome : Function → Call → Bounds → Heap → Value → Expr → Outcome
line_outcome f c bounds heap v e = (eval e (fresh heap (line_locals f c v) bounds.max_steps)).outcome

abbrev pub line_fault : Value → Outcome → Option Fault
line_fault v (Returned w) = if truth w then None else Some (WasFalse v)
line_fault v (Raised c) = Some (RaisedInPost c)
line_fault v (Limit k) = None

abbrev pub line_limit : Outcome → Option LimitKind
line_limit (Returned w) = None
line_limit (Raised c) = None
line_limit (Limit k) = Some k

-- what a raised class breaks, where these are permitted with those below them
abbrev pub raise_fault : List ExcClass → ExcClass → Option Fault
raise_fault permitted c = if is_permitted permitted c then None else Some (RaisedInBody c)

-- Condition 0 is broken where the body raised a class that is not permitted. A post condition is judged only after a normal return.
abbrev pub fault_at : Function → Condition → Call → Bounds → Heap → Outcome → Option Fault
fault_at f (Raises line permitted) c bounds heap (Returned v) = None
fault_at f (Raises line permitted) c bounds heap (Raised class) = raise_fault permitted class
fault_at f (Raises line permitted) c bounds heap (Limit k) = None
fault_at f (Post line e) c bounds heap (Returned v) = line_fault v (line_outcome f c bounds heap v e)
fault_at f (Post line e) c bounds heap (Raised class) = None
fault_at f (Post line e) c bounds heap (Limit k) = None

abbrev pub limit_at : Function → Condition → Call → Bounds → Heap → Outcome → Option LimitKind
limit_at f (Raises line permitted) c bounds heap outcome = None
limit_at f (Post line e) c bounds heap (Returned v) = line_limit (line_outcome f c bounds heap v e)
limit_at f (Post line e) c bounds heap (Raised class) = None
limit_at f (Post line e) c bounds heap (Limit k) = None

abbrev pub fault_of : Function → Condition → Call → Bounds → Judged → Option Fault
fault_of f k c bounds Unmet = None
fault_of f k c bounds (Limited kind) = None
fault_of f k c bounds (Ended ran old) = fault_at f k c bounds ran.after.heap ran.outcome

abbrev pub limit_of : Function → Condition → Call → Bounds → Judged → Option LimitKind
limit_of f k c bounds Unmet = None
limit_of f k c bounds (Limited kind) = Some kind
limit_of f k c bounds (Ended ran old) = limit_at f k c bounds ran.after.heap ran.outcome

-- what breaks a condition in a call
unfoldable pub broken : Function → Condition → Bounds → Call → Option Fault
broken f k bounds c = fault_of f k c bounds (judged f c bounds)

-- the limit by which a condition is not decided in a call
unfoldable pub limited : Function → Condition → Bounds → Call → Option LimitKind
limited f k bounds c = limit_of f k c bounds (judged f c bounds)

abbrev pub is_unmet_at : Judged → Bool
is_unmet_at Unmet = true
is_unmet_at (Limited kind) = false
is_unmet_at (Ended ran old) = false

unfoldable pub is_unmet : Function → Bounds → Call → Bool
is_unmet f bounds c = is_unmet_at (judged f c bounds)
