use Rattle.std.proofs.Common.{false, Contains, subst, inl, inr}
use Rattle.refutation_check.specs.declared.lit.SatLit.{SatLit}
use Rattle.refutation_check.proofs.Lists.{contains_at}
use Rattle.refutation_check.proofs.known.Known.assume_all.Goals as goal

pub loop-l-init : goal.loop-l-init
loop-l-init c = λ l t. absurd (c.requires l t)

pub loop-l-preserved : goal.loop-l-preserved
loop-l-preserved c = λ l t.
    let P : SatLit → Type 0 = λ k. Contains c.args.lits.now k in
    let there = contains_at c.args.lits.now c.loop-l.l-index (record { var = 0; positive = false }) c.loop-l-test.true in
    elim (c.assume.ensures l t) [ inl o ↦ c.loop-l.invariant l o | inr e ↦ subst P e there ]
