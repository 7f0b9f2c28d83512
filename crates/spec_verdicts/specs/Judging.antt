-- Judging one call.
use Rattle.std.specs.Prelude.{List, [], ◌∷◌, map, Option, Some, None, unwrap_or, if◌then◌else◌}
use Rattle.spec_first_trees.specs.declared.LimitKind.{LimitKind}
use Rattle.spec_first_trees.specs.Bounds.{Bounds}
use Rattle.spec_first_trees.specs.Expr.{Expr}
use Rattle.spec_first_trees.specs.Program.{Function}
use Rattle.spec_running.specs.declared.Value.{Value}
use Rattle.spec_running.specs.declared.Outcome.{Outcome}
use Rattle.spec_running.specs.declared.Outcome.TheVariants.{Returned, Raised, Limit}
use Rattle.spec_running.specs.States.{State, Ran}
use Rattle.spec_running.specs.Operations.{truth}
use Rattle.spec_running.specs.Running.{eval, call, fresh, bound}
use Rattle.spec_calls.specs.Calls.{Call, made}

pub data Judged : Type 0 where
  -- a precondition is not met
  Unmet : Judged
  -- a limit was met
  Limited : LimitKind → Judged
  -- the body returned or raised: what it left, and the old copies of the arguments
  Ended : Ran → List Value → Judged

abbrev pub on_precondition : Outcome → Option Judged → Option Judged
on_precondition (Returned v) rest = if truth v then rest else Some Unmet
on_precondition (Raised c) rest = Some Unmet
on_precondition (Limit k) rest = Some (Limited k)

-- Each precondition is run from the same state with a fresh budget. The first that is false, that raises or that meets a limit decides.
abbrev pub decided : List Expr → State → Option Judged
decided [] s = None
decided (p ∷ ps) s = on_precondition (eval p s).outcome (decided ps s)

abbrev pub on_body : Ran → List Value → Outcome → Judged
on_body r old (Returned v) = Ended r old
on_body r old (Raised c) = Ended r old
on_body r old (Limit k) = Limited k

-- copies that share nothing with the values; a scalar is its own copy
abbrev pub copied : List Value → List Value
copied vs = vs

abbrev pub body_of : Function → List Value → Bounds → Ran
body_of f vs bounds = call f vs bounds.max_depth (fresh [] [] bounds.max_steps)

-- First the arguments are made, which takes no step. Then the preconditions decide, else the arguments are copied and the body is run.
unfoldable pub judged : Function → Call → Bounds → Judged
judged f c bounds =
    let vs = map made c in
    let ran = body_of f vs bounds in
    unwrap_or (decided f.preconditions (fresh [] (bound f.parameters vs) bounds.max_steps)) (on_body ran (copied vs) ran.outcome)
