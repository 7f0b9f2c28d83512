-- What the evaluator answers.
use Rattle.std.specs.Prelude.{◌≡◌, ℕ, ◌-◌, ◌==◌, ℤ, List, [], ◌∷◌, ◌++◌, map, Option, Some, None, Result, Ok, Err, if◌then◌else◌}
use Rattle.spec_first_trees.specs.declared.LimitKind.TheVariants as limit
use Rattle.spec_first_trees.specs.Expr.{Expr}
use Rattle.spec_running.specs.declared.Value.{Value}
use Rattle.spec_running.specs.declared.Outcome.{Outcome}
use Rattle.spec_running.specs.declared.Outcome.TheVariants.{Limit}
use Rattle.spec_running.specs.States.{Locals, State, Ran}
use Rattle.spec_running.specs.Running.{eval, ends, spending, and_then, bound}
use Rattle.spec_calls.specs.Calls.{Number, made}
use Rattle.spec_forms.specs.Names.{returned_name}
use Rattle.first_tree.specs.Functions.{int_parameter}
use Rattle.first_verdicts.specs.declared.evaluator.Locals as declared
use Rattle.first_verdicts.specs.declared.evaluator.Evaluated.{Evaluated}
use Rattle.first_verdicts.specs.declared.evaluator.Operands.{Operands}

-- parameters of these names with their arguments
abbrev pub passed : List (List ℕ) → List ℤ → Locals
passed names arguments = bound (map int_parameter names) (map made (map Number arguments))

-- locals, and the returned value behind them where there is one
abbrev pub with_returned : Locals → Option Value → Locals
with_returned locals None = locals
with_returned locals (Some v) = locals ++ (returned_name, v) ∷ []

abbrev pub locals_in : declared.Locals → Locals
locals_in l = with_returned (passed l.parameters.now l.arguments.now) l.returned

-- From every state with these locals and steps, a run ends with this outcome and leaves so many steps, and nothing else changes.
abbrev pub RunsTo : (State → Ran) → Locals → ℕ → Outcome → ℕ → Type 0
RunsTo run locals steps outcome left = (s : State) → s.locals ≡ locals → s.steps ≡ steps → run s ≡ ends outcome (record s { steps = left })

-- what comes of an outcome that takes one step
abbrev pub stepped : Outcome → ℕ → Evaluated
stepped outcome steps = if steps == 0 then record { outcome = Limit limit.Steps; steps = 0 } else record { outcome = outcome; steps = steps - 1 }

-- one step, both operands from left to right, and then f of them
abbrev pub operated : Expr → Expr → (Value → Value → Outcome) → State → Ran
operated a b f s = spending s (λ t. and_then (eval a t) (λ v u. and_then (eval b u) (λ w x. ends (f v w) x)))

-- the operands, or how the run ends before they are both known
abbrev pub AreOperands : Expr → Expr → Locals → ℕ → Result Operands Evaluated → Type 0
AreOperands a b locals steps (Ok o) = (f : Value → Value → Outcome) → RunsTo (operated a b f) locals steps (f o.left o.right) o.steps
AreOperands a b locals steps (Err r) = (f : Value → Value → Outcome) → RunsTo (operated a b f) locals steps r.outcome r.steps
