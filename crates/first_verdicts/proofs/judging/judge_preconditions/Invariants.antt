use Rattle.std.proofs.Common.{◌≡◌, [], map, drop}
use Rattle.spec_running.specs.Running.{fresh}
use Rattle.spec_verdicts.specs.Judging.{decided}
use Rattle.first_tree.specs.Functions.{expr_in}
use Rattle.first_verdicts.specs.Evaluates.{locals_in}
use Rattle.first_verdicts.proofs.judging.judge_preconditions.Given as goal

abbrev pub invariant-loop-precondition : goal.invariant-loop-precondition
invariant-loop-precondition l =
    decided (map (expr_in l.trees.nodes) (drop l.precondition-index l.preconditions)) (fresh [] (locals_in l.locals) l.steps) ≡ decided (map (expr_in l.trees.nodes) l.preconditions) (fresh [] (locals_in l.locals) l.steps)
