use Rattle.std.proofs.Common.{false, get_or}
use Rattle.refutation_check.proofs.Lists.{contains_at}
use Rattle.refutation_check.proofs.Cuts.{denied_next, denied_told}
use Rattle.refutation_check.proofs.hints.deny.Goals as goal

pub returns-then-has-clause-denied : goal.returns-then-has-clause-denied
returns-then-has-clause-denied c = λ _.
    let there = contains_at c.args.clause.now c.loop-l.l-index (record { var = 0; positive = false }) c.loop-l-test.true in
    denied_told c.args.slots.now c.loop-l.slots c.args.clause.now (get_or c.args.clause.now c.loop-l.l-index (record { var = 0; positive = false })) there c.loop-l.invariant (c.has.ensures c.if-has.true)

pub loop-l-preserved : goal.loop-l-preserved
loop-l-preserved c =
    let there = contains_at c.args.clause.now c.loop-l.l-index (record { var = 0; positive = false }) c.loop-l-test.true in
    denied_next c.args.slots.now c.loop-l.slots c.note.new.self c.args.clause.now (get_or c.args.clause.now c.loop-l.l-index (record { var = 0; positive = false })) c.negated.result there c.negated.ensures c.loop-l.invariant c.note.ensures.kept c.note.ensures.told
