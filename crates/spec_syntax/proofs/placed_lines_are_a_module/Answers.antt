use Rattle.spec_syntax.proofs.PlacementLaws.{placed_is_module}
use Rattle.spec_syntax.proofs.placed_lines_are_a_module.Goals as goal

pub returns : goal.returns
returns c = placed_is_module
