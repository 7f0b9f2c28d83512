use Rattle.std.proofs.Common.{◌++◌}
use Rattle.refutation_check.proofs.Cuts.{denied_follows, conflict_follows}
use Rattle.refutation_check.proofs.hints.shows.Goals as goal

pub returns-then-deny-clause-shown : goal.returns-then-deny-clause-shown
returns-then-deny-clause-shown c = λ _. denied_follows (c.args.clauses.now ++ c.args.more.now) c.args.slots.now c.begin_round.new.self (c.begin_round.ensures.fresh c.if-not-begin_round.false) c.args.clause.now (c.deny.ensures.denied c.if-deny.true)

pub returns-clause-kept : goal.returns-clause-kept
returns-clause-kept c = λ l t. c.begin_round.ensures.kept l (c.deny.ensures.kept l (c.follow.ensures.kept l t))

pub returns-clause-shown : goal.returns-clause-shown
returns-clause-shown c = λ h. conflict_follows (c.args.clauses.now ++ c.args.more.now) c.args.slots.now c.begin_round.new.self (c.begin_round.ensures.fresh c.if-not-begin_round.false) c.args.clause.now c.deny.new.slots c.deny.ensures.told (c.follow.ensures.conflict h)
