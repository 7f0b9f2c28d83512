use Rattle.spec_tokens.proofs.WellFormed.{well_formed}
use Rattle.spec_tokens.proofs.tokens_are_well_formed.Goals as goal

pub returns : goal.returns
returns c = well_formed
