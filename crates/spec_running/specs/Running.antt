-- Running, as a recursion on trees (Python 3.12 language reference, "Expressions" and "Simple statements").
use Rattle.std.specs.Prelude.{ℕ, ◌+◌, ◌-◌, ◌==◌, nat_lt, pos, List, [], ◌∷◌, ◌++◌, Option, Some, None, if◌then◌else◌}
use Rattle.spec_first_trees.specs.declared.ExcClass.TheVariants.{UnboundLocalError}
use Rattle.spec_first_trees.specs.declared.LimitKind.TheVariants as limit
use Rattle.spec_first_trees.specs.Expr.{Expr, name, integer, binary, compare, group}
use Rattle.spec_first_trees.specs.Program.{Statement, Numbered, Function, Parameter, Text, Return}
use Rattle.spec_running.specs.declared.Value.{Value}
use Rattle.spec_running.specs.declared.Value.TheVariants.{Nil, Int}
use Rattle.spec_running.specs.declared.Outcome.{Outcome}
use Rattle.spec_running.specs.declared.Outcome.TheVariants.{Returned, Raised, Limit}
use Rattle.spec_running.specs.States.{Heap, Locals, State, Ran, local}
use Rattle.spec_running.specs.Operations.{calculated, compared}

abbrev pub ends : Outcome → State → Ran
ends outcome s = record { outcome = outcome; after = s }

-- One step is spent before something is done. With no step left the run meets the limit.
abbrev pub spending : State → (State → Ran) → Ran
spending s next = if s.steps == 0 then ends (Limit limit.Steps) s else next (record s { steps = s.steps - 1 })

-- What follows a value. Another outcome ends the run.
abbrev pub followed : Outcome → State → (Value → State → Ran) → Ran
followed (Returned v) s next = next v s
followed (Raised c) s next = ends (Raised c) s
followed (Limit k) s next = ends (Limit k) s

abbrev pub and_then : Ran → (Value → State → Ran) → Ran
and_then r next = followed r.outcome r.after next

-- a local that is not set raises
abbrev pub read : Option Value → Outcome
read (Some v) = Returned v
read None = Raised UnboundLocalError

-- The value of an expression. Each node takes a step at its start, and brackets are no node.
unfoldable pub eval : Expr → State → Ran
eval (name x) s = spending s (λ t. ends (read (local t.locals x)) t)
eval (integer n) s = spending s (λ t. ends (Returned (Int (pos n))) t)
eval (binary op a b) s = spending s (λ t. and_then (eval a t) (λ v u. and_then (eval b u) (λ w x. ends (calculated op v w) x)))
eval (compare op a b) s = spending s (λ t. and_then (eval a t) (λ v u. and_then (eval b u) (λ w x. ends (compared op v w) x)))
eval (group a) s = eval a s

-- A statement is counted as executed once its step is spent.
abbrev pub executed : ℕ → State → State
executed n s = record s { statements = s.statements ++ n ∷ [] }

-- One statement, and what follows it. A string literal as a statement is dropped and costs nothing.
abbrev pub exec_one : Statement → ℕ → State → (State → Ran) → Ran
exec_one (Text t) n s next = next s
exec_one (Return e) n s next = spending s (λ t. eval e (executed n t))

-- A function that ends without `return` gives None.
unfoldable pub exec : List Numbered → State → Ran
exec [] s = ends (Returned Nil) s
exec (n ∷ ns) s = exec_one n.statement n.number s (λ t. exec ns t)

-- parameters with their arguments
abbrev pub bound : List Parameter → List Value → Locals
bound [] vs = []
bound (p ∷ ps) [] = []
bound (p ∷ ps) (v ∷ vs) = (p.name, v) ∷ bound ps vs

-- an activity starts with a fresh budget, and with no active call
abbrev pub fresh : Heap → Locals → ℕ → State
fresh heap locals steps = record { heap = heap; locals = locals; steps = steps; active = 0; statements = [] }

-- the caller's names come back
abbrev pub left_by : State → Ran → Ran
left_by s r = record r { after = record r.after { locals = s.locals; active = s.active } }

-- A call of a function. So many calls may be active at once.
unfoldable pub call : Function → List Value → ℕ → State → Ran
call f vs max_depth s =
    if nat_lt s.active max_depth then left_by s (exec f.body (record s { locals = bound f.parameters vs; active = s.active + 1 })) else ends (Limit limit.Depth) s
