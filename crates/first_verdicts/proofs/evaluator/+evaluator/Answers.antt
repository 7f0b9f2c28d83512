use Rattle.std.proofs.Common.{ap, ◌∙◌}
use Rattle.spec_running.specs.Operations.{calculated, compared}
use Rattle.first_tree.specs.Arena.{node_tree, shown}
use Rattle.first_verdicts.proofs.Evaluation.{runs_as, group_runs, name_runs, integer_runs, binary_runs, compare_runs}
use Rattle.first_verdicts.proofs.evaluator.+evaluator.Goals as goal

pub evaluate-returns-in-Group : goal.evaluate-returns-in-Group
evaluate-returns-in-Group t c =
    runs_as _ _ _ _ _ _ (c.expr.ensures.tree ∙ ap (node_tree (shown c.args.trees.now.nodes)) c.in-Group.is) (group_runs _ _ _ _ _ c.evaluate.ensures)

pub evaluate-returns-in-Name : goal.evaluate-returns-in-Name
evaluate-returns-in-Name t c =
    runs_as _ _ _ _ _ _ (c.expr.ensures.tree ∙ ap (node_tree (shown c.args.trees.now.nodes)) c.in-Name.is) (rw (c.leaf.ensures, c.read.ensures, c.as_slice.ensures) (name_runs _ _ _))

pub evaluate-returns-in-Int : goal.evaluate-returns-in-Int
evaluate-returns-in-Int t c =
    runs_as _ _ _ _ _ _ (c.expr.ensures.tree ∙ ap (node_tree (shown c.args.trees.now.nodes)) c.in-Int.is) (rw (c.leaf-in-Int.ensures, c.integer.ensures) (integer_runs _ _ _))

pub evaluate-returns-in-Ok : goal.evaluate-returns-in-Ok
evaluate-returns-in-Ok t c =
    runs_as _ _ _ _ _ _ (c.expr.ensures.tree ∙ ap (node_tree (shown c.args.trees.now.nodes)) c.in-Binary.is) (binary_runs c.in-Binary.op _ _ _ _ _ _ (rw c.calculated.ensures (c.in-Ok.ensures (calculated c.in-Binary.op))))

pub evaluate-returns-in-Err : goal.evaluate-returns-in-Err
evaluate-returns-in-Err t c =
    runs_as _ _ _ _ _ _ (c.expr.ensures.tree ∙ ap (node_tree (shown c.args.trees.now.nodes)) c.in-Binary.is) (binary_runs c.in-Binary.op _ _ _ _ _ _ (c.in-Err.ensures (calculated c.in-Binary.op)))

pub evaluate-returns-in-Ok-evaluate_both : goal.evaluate-returns-in-Ok-evaluate_both
evaluate-returns-in-Ok-evaluate_both t c =
    runs_as _ _ _ _ _ _ (c.expr.ensures.tree ∙ ap (node_tree (shown c.args.trees.now.nodes)) c.in-Compare.is) (compare_runs c.in-Compare.op _ _ _ _ _ _ (rw c.compared.ensures (c.in-Ok-evaluate_both.ensures (compared c.in-Compare.op))))

pub evaluate-returns-in-Err-evaluate_both : goal.evaluate-returns-in-Err-evaluate_both
evaluate-returns-in-Err-evaluate_both t c =
    runs_as _ _ _ _ _ _ (c.expr.ensures.tree ∙ ap (node_tree (shown c.args.trees.now.nodes)) c.in-Compare.is) (compare_runs c.in-Compare.op _ _ _ _ _ _ (c.in-Err-evaluate_both.ensures (compared c.in-Compare.op)))
