use Rattle.std.proofs.Common.{refl}
use Rattle.spec_verdicts.specs.Judging as judging
use Rattle.first_tree.specs.BoundsOf.{bounds_of}
use Rattle.first_verdicts.proofs.Judgements.{preconditions_are, judged_by_body, judged_by_precondition}
use Rattle.first_verdicts.proofs.judging.judge.Goals as goal

pub returns-in-Met : goal.returns-in-Met
returns-in-Met c =
    judged_by_body _ _ _ _ _
    (preconditions_are c.args.question.now.trees.now.nodes c.args.question.now.function.now c.args.arguments.now (bounds_of c.args.question.now.bounds.now) _ _ _ c.as_slice.ensures.value c.as_slice-preconditions.ensures.value c.in-Met.ensures)
    c.judge_body.ensures

pub returns-in-Unmet : goal.returns-in-Unmet
returns-in-Unmet c =
    judged_by_precondition _ _ _ _ judging.Unmet _
    (preconditions_are c.args.question.now.trees.now.nodes c.args.question.now.function.now c.args.arguments.now (bounds_of c.args.question.now.bounds.now) _ _ _ c.as_slice.ensures.value c.as_slice-preconditions.ensures.value c.in-Unmet.ensures)
    (record { broken = refl; limited = refl; unmet = refl })

pub returns-in-Limited : goal.returns-in-Limited
returns-in-Limited c =
    judged_by_precondition _ _ _ _ (judging.Limited c.in-Limited.kind) _
    (preconditions_are c.args.question.now.trees.now.nodes c.args.question.now.function.now c.args.arguments.now (bounds_of c.args.question.now.bounds.now) _ _ _ c.as_slice.ensures.value c.as_slice-preconditions.ensures.value c.in-Limited.ensures)
    (record { broken = refl; limited = refl; unmet = refl })
