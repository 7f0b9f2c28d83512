use Rattle.std.proofs.Common.{◌+◌, ◌*◌, max}
use Rattle.first_verdicts.proofs.evaluator.+evaluator.Given as goal

abbrev pub decreases-evaluate : goal.decreases-evaluate
decreases-evaluate l = 2 * l.e.index

abbrev pub decreases-evaluate_both : goal.decreases-evaluate_both
decreases-evaluate_both l = 2 * max l.left.index l.right.index + 1
