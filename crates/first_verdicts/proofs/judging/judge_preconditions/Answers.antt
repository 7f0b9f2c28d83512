use Rattle.std.proofs.Common.{◌∙◌, arith}
use Rattle.first_verdicts.proofs.Judgements.{next_precondition}
use Rattle.first_verdicts.proofs.judging.judge_preconditions.Goals as goal

pub loop-precondition-preserved : goal.loop-precondition-preserved
loop-precondition-preserved c =
    next_precondition c.args.trees.now.nodes c.args.preconditions.now c.loop-precondition.precondition-index _ c.args.steps _ c.evaluate-ended.result.outcome (omega arith) c.evaluate-ended.ensures c.in-Met.ensures ∙ c.loop-precondition.invariant
