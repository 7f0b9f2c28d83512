use Rattle.std.proofs.Common.{◌≢◌, false, subst}
use Rattle.std.proofs.lemmas.List.{take_all}
use Rattle.std.proofs.lemmas.List.Elements.{All-more}
use Rattle.std.specs.List.{All}
use Rattle.refutation_check.specs.declared.lit.SatLit.{SatLit}
use Rattle.refutation_check.specs.Truth.{negated}
use Rattle.refutation_check.specs.Told.{IsTold}
use Rattle.refutation_check.proofs.hints.is_last.Goals as goal

pub loop-k-preserved : goal.loop-k-preserved
loop-k-preserved c = All-more (λ (k : SatLit). k ≢ c.args.l → IsTold c.args.slots.now (negated k)) c.args.clause.now c.loop-k.k-index (record { var = 0; positive = false }) c.loop-k-test.true c.loop-k.invariant (c.is_settled.ensures c.if-not-is_settled.false)

pub returns : goal.returns
returns c = λ _. subst (All (λ (k : SatLit). k ≢ c.args.l → IsTold c.args.slots.now (negated k))) (take_all c.loop-k.k-index c.args.clause.now c.loop-k-test.false) c.loop-k.invariant
