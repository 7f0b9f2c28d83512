use Rattle.std.proofs.Common.{◌++◌}
use Rattle.refutation_check.proofs.Cuts.{follows_cut}
use Rattle.refutation_check.proofs.known.Known.shows_from.Goals as goal

pub returns-clause-forced : goal.returns-clause-forced
returns-clause-forced c = λ l t. c.learn_all.ensures l (c.shows_by.ensures.kept l t)

pub returns-clause-shown : goal.returns-clause-shown
returns-clause-shown c = λ h. follows_cut (c.args.clauses.now ++ c.args.more.now) c.args.self.now c.learn_all.new.self c.args.clause.now c.learn_all.ensures (c.shows_by.ensures.shown h)
