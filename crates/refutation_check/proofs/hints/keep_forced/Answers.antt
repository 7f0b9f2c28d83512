use Rattle.std.proofs.Common.{◌++◌}
use Rattle.refutation_check.specs.Propagation.{is_given}
use Rattle.refutation_check.proofs.Cuts.{kept_listed, kept_next}
use Rattle.refutation_check.proofs.hints.keep_forced.Goals as goal

pub returns-then-not-begin_round : goal.returns-then-not-begin_round
returns-then-not-begin_round c = λ l t. is_given l (kept_listed c.args.slots.now l (c.begin_round.ensures.kept l t))

pub returns-in_default : goal.returns-in_default
returns-in_default c = λ l t. is_given l (kept_listed c.args.slots.now l (c.begin_round.ensures.kept l t))

pub returns-in-Last : goal.returns-in-Last
returns-in-Last c = kept_next (c.args.clauses.now ++ c.args.more.now) c.args.slots.now c.begin_round.new.self (c.begin_round.ensures.fresh c.if-not-begin_round.false) c.keep.new.self c.in-Some.clause.now c.in-Last.l c.in-Some.ensures c.in-Last.ensures c.keep.ensures

pub returns-in_default-see : goal.returns-in_default-see
returns-in_default-see c = λ l t. is_given l (kept_listed c.args.slots.now l (c.begin_round.ensures.kept l t))
