use Rattle.std.proofs.Common.{◌≡◌, drop}
use Rattle.spec_running.specs.States.{local}
use Rattle.first_verdicts.specs.Evaluates.{passed}
use Rattle.first_verdicts.proofs.evaluator.argument.Given as goal

abbrev pub invariant-loop-place : goal.invariant-loop-place
invariant-loop-place l = local (passed (drop l.place l.parameters) (drop l.place l.arguments)) l.name ≡ local (passed l.parameters l.arguments) l.name
