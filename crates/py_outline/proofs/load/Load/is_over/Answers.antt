use Rattle.std.proofs.Common.{◌≡◌, ap, ◌∙◌, arith}
use Rattle.py_outline.specs.Reach.{is_over}
use Rattle.py_outline.proofs.Reaching.{reach_is_load}
use Rattle.py_outline.proofs.load.Load.is_over.Goals as goal

over_is_viewed : (c : goal.After-self) → c.self.inside.is_over ≡ is_over c.args.self.now
over_is_viewed c = grind (arith, c.self.view_is)

pub returns-clause-load : goal.returns-clause-load
returns-clause-load c = λ s e. over_is_viewed c ∙ ap is_over e ∙ reach_is_load s
