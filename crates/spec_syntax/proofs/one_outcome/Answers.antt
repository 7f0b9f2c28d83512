use Rattle.spec_syntax.proofs.PhaseLaws.{parsed_is}
use Rattle.spec_syntax.proofs.one_outcome.Goals as goal

pub returns : goal.returns
returns c = parsed_is
