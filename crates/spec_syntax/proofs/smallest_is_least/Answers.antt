use Rattle.spec_syntax.proofs.NumberLaws.{smallest_is_least}
use Rattle.spec_syntax.proofs.smallest_is_least.Goals as goal

pub returns : goal.returns
returns c = smallest_is_least
