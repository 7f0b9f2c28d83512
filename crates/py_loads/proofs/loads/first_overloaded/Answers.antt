use Rattle.std.proofs.Common.{arith}
use Rattle.std.proofs.lemmas.Grind.{common_steps}
use Rattle.spec_syntax.specs.Phases.{first_overloaded}
use Rattle.py_loads.proofs.loads.first_overloaded.Goals as goal

pub returns-then-branch : goal.returns-then-branch
unfolding first_overloaded
returns-then-branch c = grind (arith, common_steps)

pub returns : goal.returns
unfolding first_overloaded
returns c = grind (arith, common_steps)
