use Rattle.std.proofs.Common.{arith}
use Rattle.first_tree.specs.BoundsOf.{bounds_of}
use Rattle.first_verdicts.proofs.Judgements.{body_returns, body_falls_off}
use Rattle.first_verdicts.proofs.judging.run_body.Goals as goal

pub returns-in-Some : goal.returns-in-Some
returns-in-Some c =
    body_returns c.args.question.now.trees.now.nodes c.args.question.now.function.now c.args.arguments.now (bounds_of c.args.question.now.bounds.now) c.as_slice.result.now c.deref.result.now c.in-Some.value.now _ _ (omega arith) (omega arith)
    c.as_slice.ensures.value c.deref.ensures.value c.in-Some.ensures.value c.evaluate.ensures

pub returns-in-None : goal.returns-in-None
returns-in-None c =
    body_falls_off c.args.question.now.trees.now.nodes c.args.question.now.function.now c.args.arguments.now (bounds_of c.args.question.now.bounds.now) c.deref.result.now (omega arith) c.deref.ensures.value c.in-None.ensures.value
