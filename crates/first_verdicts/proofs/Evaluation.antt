-- How runs of expressions are put together.
use Rattle.std.proofs.Common.{◌≡◌, ◌<◌, ℕ, ◌-◌, ◌==◌, List, pos, Bool, true, false, refl, sym, ap, ◌∙◌, subst, arith}
use Rattle.std.specs.Prelude.{if◌then◌else◌}
use Rattle.spec_first_trees.specs.declared.LimitKind.TheVariants as limit
use Rattle.spec_first_trees.specs.Expr.{Expr}
use Rattle.spec_first_trees.specs.Expr as tree
use Rattle.spec_first_trees.specs.declared.BinaryOp.{BinaryOp}
use Rattle.spec_first_trees.specs.declared.CompareOp.{CompareOp}
use Rattle.spec_running.specs.declared.Value.TheVariants.{Int}
use Rattle.spec_running.specs.declared.Outcome.{Outcome}
use Rattle.spec_running.specs.declared.Outcome.TheVariants.{Returned, Limit}
use Rattle.spec_running.specs.States.{Locals, State, Ran, local}
use Rattle.spec_running.specs.Running.{eval, ends, spending, read}
use Rattle.spec_running.specs.Operations.{calculated, compared}
use Rattle.first_verdicts.specs.declared.evaluator.Evaluated.{Evaluated}
use Rattle.first_verdicts.specs.Evaluates.{RunsTo, operated, stepped}

-- a state is itself with its own steps
pub same_steps : (s : State) (n : ℕ) → s.steps ≡ n → s ≡ record s { steps = n }
same_steps s n e = ap (λ k. record s { steps = k }) e

-- with a step left, one is spent
pub spends : (s : State) (next : State → Ran) → 0 < s.steps → spending s next ≡ next (record s { steps = s.steps - 1 })
spends s next some = choose (s.steps == 0) (grind arith)
  where
    choose : (b : Bool) → b ≡ false → (if b then ends (Limit limit.Steps) s else next (record s { steps = s.steps - 1 })) ≡ next (record s { steps = s.steps - 1 })
    choose true e = cc
    choose false e = refl

-- with none left, the limit is met
pub spends_none : (next : State → State → Ran) (locals : Locals) → RunsTo (λ s. spending s (next s)) locals 0 (Limit limit.Steps) 0
spends_none next locals s same none = choose (s.steps == 0) (grind arith) ∙ ap (λ t. ends (Limit limit.Steps) t) (same_steps s 0 none)
  where
    choose : (b : Bool) → b ≡ true → (if b then ends (Limit limit.Steps) s else next s (record s { steps = s.steps - 1 })) ≡ ends (Limit limit.Steps) s
    choose true e = refl
    choose false e = cc

-- a step, and then an outcome that the locals decide
pub leaf_runs : (outcome : State → Outcome) (locals : Locals) (n : ℕ) (result : Outcome) → ((s : State) → s.locals ≡ locals → outcome s ≡ result)
    → RunsTo (λ s. spending s (λ t. ends (outcome t) t)) locals n (stepped result n).outcome (stepped result n).steps
leaf_runs outcome locals n result is s same steps = choose (n == 0) refl
  where
    choose : (b : Bool) → (n == 0) ≡ b → spending s (λ t. ends (outcome t) t) ≡ (let r : Evaluated = if b then record { outcome = Limit limit.Steps; steps = 0 } else record { outcome = result; steps = n - 1 } in ends r.outcome (record s { steps = r.steps }))
    choose true e =
        let none : n ≡ 0 = grind arith in
        let empty : s.steps ≡ 0 = steps ∙ none in
        spends_none (λ s. λ t. ends (outcome t) t) locals s same empty
    choose false e =
        let some : 0 < s.steps = grind arith in
        spends s (λ t. ends (outcome t) t) some
        ∙ ap (λ o. ends o (record s { steps = s.steps - 1 })) (is (record s { steps = s.steps - 1 }) same)
        ∙ ap (λ k. ends result (record s { steps = k - 1 })) steps

-- a run of an equal expression
pub runs_as : (e d : Expr) (locals : Locals) (n m : ℕ) (outcome : Outcome) → e ≡ d → RunsTo (eval d) locals n outcome m → RunsTo (eval e) locals n outcome m
runs_as e d locals n m outcome is runs = subst (λ x. RunsTo (eval x) locals n outcome m) (sym is) runs

pub group_runs : (a : Expr) (locals : Locals) (n m : ℕ) (outcome : Outcome) → RunsTo (eval a) locals n outcome m → RunsTo (eval (tree.group a)) locals n outcome m
unfolding eval
group_runs a locals n m outcome runs = runs

pub name_runs : (x : List ℕ) (locals : Locals) (n : ℕ) → RunsTo (eval (tree.name x)) locals n (stepped (read (local locals x)) n).outcome (stepped (read (local locals x)) n).steps
unfolding eval
name_runs x locals n = leaf_runs (λ s. read (local s.locals x)) locals n (read (local locals x)) (λ s same. ap (λ l. read (local l x)) same)

pub integer_runs : (k : ℕ) (locals : Locals) (n : ℕ) → RunsTo (eval (tree.integer k)) locals n (stepped (Returned (Int (pos k))) n).outcome (stepped (Returned (Int (pos k))) n).steps
unfolding eval
integer_runs k locals n = leaf_runs (λ s. Returned (Int (pos k))) locals n (Returned (Int (pos k))) (λ s same. refl)

pub binary_runs : (op : BinaryOp) (a b : Expr) (locals : Locals) (n m : ℕ) (outcome : Outcome) → RunsTo (operated a b (calculated op)) locals n outcome m → RunsTo (eval (tree.binary op a b)) locals n outcome m
unfolding eval
binary_runs op a b locals n m outcome runs = runs

pub compare_runs : (op : CompareOp) (a b : Expr) (locals : Locals) (n m : ℕ) (outcome : Outcome) → RunsTo (operated a b (compared op)) locals n outcome m → RunsTo (eval (tree.compare op a b)) locals n outcome m
unfolding eval
compare_runs op a b locals n m outcome runs = runs
