use Rattle.std.proofs.Common.{◌++◌}
use Rattle.refutation_check.specs.Told.{told_in}
use Rattle.refutation_check.proofs.Cuts.{followed_first, followed_next, none_fails}
use Rattle.refutation_check.proofs.hints.follow.Goals as goal

pub loop-place-init : goal.loop-place-init
loop-place-init c = followed_first (c.args.clauses.now ++ c.args.more.now) c.args.slots.now

pub returns-in-False-clause-conflict : goal.returns-in-False-clause-conflict
returns-in-False-clause-conflict c = λ _. none_fails (c.args.clauses.now ++ c.args.more.now) (told_in c.args.slots.now) c.loop-place.slots c.loop-place.invariant.forced c.in-Some.clause.now c.in-Some.ensures c.in-False.ensures

pub loop-place-preserved : goal.loop-place-preserved
loop-place-preserved c = followed_next (c.args.clauses.now ++ c.args.more.now) c.args.slots.now c.loop-place.slots c.note.new.self c.in-Some.clause.now c.in-Last.l c.in-Some.ensures c.in-Last.ensures c.loop-place.invariant c.note.ensures.kept c.note.ensures.told
