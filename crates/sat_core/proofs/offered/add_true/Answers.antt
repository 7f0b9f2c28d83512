use Rattle.std.proofs.Common.{false, ℕ, List, Contains, subst, get_or, inl, inr}
use Rattle.std.proofs.lemmas.List.Elements.{Contains-push_cases}
use Rattle.refutation_check.specs.declared.lit.SatLit.{SatLit}
use Rattle.refutation_check.proofs.Lists.{contains_at}
use Rattle.sat_core.proofs.offered.add_true.Goals as goal

pub returns-in_err-push : goal.returns-in_err-push
returns-in_err-push c = λ x t.
    let P : List ℕ → Type 0 = λ v. Contains v x in
    c.loop-l.invariant x (subst P c.in_err-push.ensures.items t)

pub loop-l-preserved : goal.loop-l-preserved
loop-l-preserved c = λ x t.
    let P : List ℕ → Type 0 = λ v. Contains v x in
    let l : SatLit = get_or c.args.lits.now c.loop-l.l-index (record { var = 0; positive = false }) in
    elim (Contains-push_cases c.loop-l.vars.items l.var x (subst P c.in_ok-push.ensures.items t)) [
      | inl o ↦ c.loop-l.invariant x o
      | inr e ↦ inr (record { lit = l; there = contains_at c.args.lits.now c.loop-l.l-index (record { var = 0; positive = false }) c.loop-l-test.true; variable = e })
    ]
