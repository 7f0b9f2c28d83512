use Rattle.std.proofs.Common.{ℕ, ◌<◌, List, length, Contains, sym, subst, arith, inl, inr}
use Rattle.refutation_check.proofs.Lists.{contains_none}
use Rattle.sat_core.specs.Variables.{in_assumption, in_clause}
use Rattle.sat_core.proofs.offered.true_variables.Goals as goal

pub loop-i-init : goal.loop-i-init
loop-i-init c = λ x t.
    let P : List ℕ → Type 0 = λ v. Contains v x in
    elim (c.in_ok-add_true.ensures x t) [
      | inl o ↦ absurd (contains_none x (subst P c.new-vars.ensures.items o))
      | inr h ↦ in_assumption h.lit h.there h.variable
    ]

pub loop-i-preserved : goal.loop-i-preserved
loop-i-preserved c = λ x t.
    let lt : c.loop-i.i < length c.args.clauses.now = omega arith in
    let there : Contains c.args.clauses.now c.clause_at.result.now = (c.loop-i.i, lt, sym c.clause_at.ensures) in
    elim (c.in_ok-add_true-2.ensures x t) [
      | inl o ↦ c.loop-i.invariant x o
      | inr h ↦ in_clause c.clause_at.result.now h.lit there h.there h.variable
    ]
