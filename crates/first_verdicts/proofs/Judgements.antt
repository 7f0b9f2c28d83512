-- How runs of preconditions, a body and a post line decide a condition.
use Rattle.std.proofs.Common.{◌≡◌, ◌<◌, ◌+◌, ℕ, ℤ, ◌-◌, Bool, true, false, List, [], ◌∷◌, map, drop, length, refl, sym, ap, ◌∙◌, arith}
use Rattle.std.proofs.lemmas.List.{drop_more}
use Rattle.std.specs.Prelude.{Option, Some, None, nat_lt, unwrap_or, if◌then◌else◌, slice_index_or, slice_get}
use Rattle.spec_first_trees.specs.declared.LimitKind.TheVariants as limit
use Rattle.spec_first_trees.specs.Bounds.{Bounds}
use Rattle.spec_first_trees.specs.Program.{Function, Condition}
use Rattle.spec_running.specs.declared.Value.TheVariants.{Nil}
use Rattle.spec_running.specs.declared.Outcome.{Outcome}
use Rattle.spec_running.specs.declared.Outcome.TheVariants.{Returned, Raised, Limit}
use Rattle.spec_running.specs.States.{Locals, State, Ran}
use Rattle.spec_running.specs.Operations.{truth}
use Rattle.spec_running.specs.Running.{eval, exec, call, ends, spending, executed, fresh, bound, left_by}
use Rattle.spec_calls.specs.Calls.{Call, made}
use Rattle.spec_verdicts.specs.Judging.{Judged, Unmet, decided, on_precondition, judged, body_of}
use Rattle.spec_verdicts.specs.Breaking.{broken, limited, is_unmet, fault_of, limit_of, is_unmet_at}
use Rattle.first_tree.specs.declared.nodes.ExprId.{ExprId}
use Rattle.first_tree.specs.declared.nodes.ExprNode.{ExprNode}
use Rattle.first_tree.specs.declared.nodes.FnNode.{FnNode}
use Rattle.first_tree.specs.Arena.{shown}
use Rattle.first_tree.specs.Functions.{expr_in, return_in, function_in}
use Rattle.first_verdicts.specs.declared.judging.Judgement.{Judgement}
use Rattle.first_verdicts.specs.Evaluates.{RunsTo, passed}
use Rattle.first_verdicts.specs.Judges.{call_of, by_body, EndsBody, Tells, IsJudged}
use Rattle.first_verdicts.proofs.Evaluation.{spends}

-- a precondition that is met
met : (outcome : Outcome) (rest : Option Judged) → None ≡ on_precondition outcome None → on_precondition outcome rest ≡ rest
met (Returned v) rest e = choose (truth v) e
  where
    choose : (b : Bool) → None ≡ (if b then None else Some Unmet) → (if b then rest else Some Unmet) ≡ rest
    choose true e = refl
    choose false e = cc
met (Raised class) rest e = cc
met (Limit kind) rest e = cc

-- a precondition that decides
decides : (outcome : Outcome) (rest : Option Judged) (j : Judged) → Some j ≡ on_precondition outcome None → on_precondition outcome rest ≡ Some j
decides (Returned v) rest j e = choose (truth v) e
  where
    choose : (b : Bool) → Some j ≡ (if b then None else Some Unmet) → (if b then rest else Some Unmet) ≡ Some j
    choose true e = cc
    choose false e = sym e
decides (Raised class) rest j e = sym e
decides (Limit kind) rest j e = sym e

-- the precondition at a place, and those behind it
decided_at : (nodes : List ExprNode) (ps : List ExprId) (i : ℕ) (locals : Locals) (steps left : ℕ) (outcome : Outcome) → i < length ps
    → RunsTo (eval (shown nodes (slice_index_or ps i (record { index = 0 })).index)) locals steps outcome left
    → decided (map (expr_in nodes) (drop i ps)) (fresh [] locals steps) ≡ on_precondition outcome (decided (map (expr_in nodes) (drop (i + 1) ps)) (fresh [] locals steps))
decided_at nodes ps i locals steps left outcome lt runs =
    let e : ExprId = slice_index_or ps i (record { index = 0 }) in
    let here : drop i ps ≡ e ∷ drop (i + 1) ps = drop_more ps i (record { index = 0 }) lt in
    ap (λ (x : List ExprId). decided (map (expr_in nodes) x) (fresh [] locals steps)) here
    ∙ ap (λ (r : Ran). on_precondition r.outcome (decided (map (expr_in nodes) (drop (i + 1) ps)) (fresh [] locals steps))) (runs (fresh [] locals steps) refl refl)

pub next_precondition : (nodes : List ExprNode) (ps : List ExprId) (i : ℕ) (locals : Locals) (steps left : ℕ) (outcome : Outcome) → i < length ps
    → RunsTo (eval (shown nodes (slice_index_or ps i (record { index = 0 })).index)) locals steps outcome left → None ≡ on_precondition outcome None
    → decided (map (expr_in nodes) (drop (i + 1) ps)) (fresh [] locals steps) ≡ decided (map (expr_in nodes) (drop i ps)) (fresh [] locals steps)
next_precondition nodes ps i locals steps left outcome lt runs is_met =
    sym (decided_at nodes ps i locals steps left outcome lt runs ∙ met outcome (decided (map (expr_in nodes) (drop (i + 1) ps)) (fresh [] locals steps)) is_met)

pub deciding_precondition : (nodes : List ExprNode) (ps : List ExprId) (i : ℕ) (locals : Locals) (steps left : ℕ) (outcome : Outcome) (j : Judged) → i < length ps
    → RunsTo (eval (shown nodes (slice_index_or ps i (record { index = 0 })).index)) locals steps outcome left → Some j ≡ on_precondition outcome None
    → Some j ≡ decided (map (expr_in nodes) (drop i ps)) (fresh [] locals steps)
deciding_precondition nodes ps i locals steps left outcome j lt runs is =
    sym (decided_at nodes ps i locals steps left outcome lt runs ∙ decides outcome (decided (map (expr_in nodes) (drop (i + 1) ps)) (fresh [] locals steps)) j is)

-- the preconditions decide so for a call
pub preconditions_are : (nodes : List ExprNode) (f : FnNode) (arguments : List ℤ) (bounds : Bounds) (names : List (List ℕ)) (ps : List ExprId) (o : Option Judged) → names ≡ f.parameters.items → ps ≡ f.preconditions.items
    → o ≡ decided (map (expr_in nodes) ps) (fresh [] (passed names arguments) bounds.max_steps)
    → decided (function_in nodes f).preconditions (fresh [] (bound (function_in nodes f).parameters (map made (call_of arguments))) bounds.max_steps) ≡ o
preconditions_are nodes f arguments bounds names ps o names_are ps_are is =
    sym (is
    ∙ ap (λ (x : List ExprId). decided (map (expr_in nodes) x) (fresh [] (passed names arguments) bounds.max_steps)) ps_are
    ∙ ap (λ (x : List (List ℕ)). decided (map (expr_in nodes) f.preconditions.items) (fresh [] (passed x arguments) bounds.max_steps)) names_are)

-- a condition is decided by what the call is judged to be
judged_so : (f : Function) (k : Condition) (bounds : Bounds) (c : Call) (j : Judged) (judgement : Judgement) → judged f c bounds ≡ j → Tells f k bounds c j judgement → IsJudged f k bounds c judgement
unfolding broken limited is_unmet
judged_so f k bounds c j judgement is tells = record {
  broken = ap (fault_of f k c bounds) is ∙ tells.broken;
  limited = ap (limit_of f k c bounds) is ∙ tells.limited;
  unmet = ap is_unmet_at is ∙ tells.unmet;
}

-- where the preconditions are met, the body decides
pub judged_by_body : (f : Function) (k : Condition) (bounds : Bounds) (c : Call) (judgement : Judgement) → decided f.preconditions (fresh [] (bound f.parameters (map made c)) bounds.max_steps) ≡ None
    → Tells f k bounds c (by_body f bounds c) judgement → IsJudged f k bounds c judgement
unfolding judged
judged_by_body f k bounds c judgement is tells = judged_so f k bounds c (by_body f bounds c) judgement (ap (λ (o : Option Judged). unwrap_or o (by_body f bounds c)) is) tells

-- where a precondition decides, the call is judged so
pub judged_by_precondition : (f : Function) (k : Condition) (bounds : Bounds) (c : Call) (j : Judged) (judgement : Judgement) → decided f.preconditions (fresh [] (bound f.parameters (map made c)) bounds.max_steps) ≡ Some j
    → Tells f k bounds c j judgement → IsJudged f k bounds c judgement
unfolding judged
judged_by_precondition f k bounds c j judgement is tells = judged_so f k bounds c j judgement (ap (λ (o : Option Judged). unwrap_or o (by_body f bounds c)) is) tells

-- the state in which a body starts
abbrev body_state : Locals → Bounds → State
body_state locals bounds = record { heap = []; locals = locals; steps = bounds.max_steps; active = 1; statements = [] }

-- a call runs its body
entered : (f : Function) (c : Call) (bounds : Bounds) (b : Bool) → b ≡ true → (if b then left_by (fresh [] [] bounds.max_steps) (exec f.body (body_state (bound f.parameters (map made c)) bounds)) else ends (Limit limit.Depth) (fresh [] [] bounds.max_steps)) ≡ left_by (fresh [] [] bounds.max_steps) (exec f.body (body_state (bound f.parameters (map made c)) bounds))
entered f c bounds true e = refl
entered f c bounds false e = cc

-- the body ends as its statements do
body_is : (f : Function) (c : Call) (bounds : Bounds) (outcome : Outcome) (after : State) → 0 < bounds.max_depth → after.heap ≡ []
    → exec f.body (body_state (bound f.parameters (map made c)) bounds) ≡ ends outcome after → EndsBody f c bounds outcome
unfolding call
body_is f c bounds outcome after deep heap is =
    let start : State = fresh [] [] bounds.max_steps in
    let all : body_of f (map made c) bounds ≡ left_by start (ends outcome after) = entered f c bounds (nat_lt 0 bounds.max_depth) (grind arith) ∙ ap (left_by start) is in
    record { is = ap (λ (r : Ran). r.outcome) all; heap = ap (λ (r : Ran). r.after.heap) all ∙ heap }

-- the first `return` is run
first_return : (nodes : List ExprNode) (values : List ExprId) (e : ExprId) (s : State) → Some e ≡ slice_get values 0 → exec (map (return_in nodes) values) s ≡ spending s (λ t. eval (shown nodes e.index) (executed 0 t))
unfolding exec
first_return nodes [] e s is = cc
first_return nodes (v ∷ values) e s is =
    let same : v ≡ e = cc in
    ap (λ (x : ExprId). spending s (λ t. eval (shown nodes x.index) (executed 0 t))) same

-- without `return` the body gives None
no_return : (nodes : List ExprNode) (values : List ExprId) (s : State) → None ≡ slice_get values 0 → exec (map (return_in nodes) values) s ≡ ends (Returned Nil) s
unfolding exec
no_return nodes [] s is = refl
no_return nodes (v ∷ values) s is = cc

-- the body ends as its first value does
pub body_returns : (nodes : List ExprNode) (f : FnNode) (arguments : List ℤ) (bounds : Bounds) (names : List (List ℕ)) (values : List ExprId) (e : ExprId) (outcome : Outcome) (left : ℕ)
    → 0 < bounds.max_steps → 0 < bounds.max_depth → names ≡ f.parameters.items → values ≡ f.values.items → Some e ≡ slice_get values 0
    → RunsTo (eval (shown nodes e.index)) (passed names arguments) (bounds.max_steps - 1) outcome left → EndsBody (function_in nodes f) (call_of arguments) bounds outcome
body_returns nodes f arguments bounds names values e outcome left some deep names_are values_are first runs =
    let s : State = body_state (passed f.parameters.items arguments) bounds in
    let t : State = record s { steps = bounds.max_steps - 1; statements = 0 ∷ [] } in
    body_is (function_in nodes f) (call_of arguments) bounds outcome (record t { steps = left }) deep refl
    (first_return nodes f.values.items e s (first ∙ ap (λ (x : List ExprId). slice_get x 0) values_are)
    ∙ spends s (λ t. eval (shown nodes e.index) (executed 0 t)) some
    ∙ runs t (ap (λ (x : List (List ℕ)). passed x arguments) (sym names_are)) refl)

-- the body ends with None
pub body_falls_off : (nodes : List ExprNode) (f : FnNode) (arguments : List ℤ) (bounds : Bounds) (values : List ExprId) → 0 < bounds.max_depth → values ≡ f.values.items → None ≡ slice_get values 0
    → EndsBody (function_in nodes f) (call_of arguments) bounds (Returned Nil)
body_falls_off nodes f arguments bounds values deep values_are none =
    let s : State = body_state (passed f.parameters.items arguments) bounds in
    body_is (function_in nodes f) (call_of arguments) bounds (Returned Nil) s deep refl
    (no_return nodes f.values.items s (none ∙ ap (λ (x : List ExprId). slice_get x 0) values_are))
