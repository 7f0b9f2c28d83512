use Rattle.std.proofs.Common.{false, subst}
use Rattle.std.proofs.lemmas.List.{take_all}
use Rattle.std.proofs.lemmas.List.Elements.{All-more}
use Rattle.std.specs.List.{All}
use Rattle.refutation_check.specs.declared.lit.SatLit.{SatLit}
use Rattle.refutation_check.specs.Truth.{negated}
use Rattle.refutation_check.specs.Told.{IsTold}
use Rattle.refutation_check.proofs.hints.see.Goals as goal

pub loop-l-preserved : goal.loop-l-preserved
loop-l-preserved c = All-more (λ (k : SatLit). IsTold c.args.slots.now (negated k)) c.args.clause.now c.loop-l.l-index (record { var = 0; positive = false }) c.loop-l-test.true c.loop-l.invariant (c.is_false.ensures c.if-not-is_false.false)

pub returns : goal.returns
returns c = subst (All (λ (k : SatLit). IsTold c.args.slots.now (negated k))) (take_all c.loop-l.l-index c.args.clause.now c.loop-l-test.false) c.loop-l.invariant
