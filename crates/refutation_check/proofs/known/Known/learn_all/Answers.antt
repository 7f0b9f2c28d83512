use Rattle.std.proofs.Common.{◌++◌}
use Rattle.refutation_check.specs.Propagation.{is_given}
use Rattle.refutation_check.proofs.Cuts.{forced_cut}
use Rattle.refutation_check.proofs.known.Known.learn_all.Goals as goal

pub loop-place-init : goal.loop-place-init
loop-place-init c = λ l t. is_given l t

pub loop-place-preserved : goal.loop-place-preserved
loop-place-preserved c = λ l t. forced_cut (c.args.clauses.now ++ c.args.more.now) c.args.self.now c.loop-place.self c.loop-place.invariant l (c.learn.ensures l t)
