use Rattle.spec_tokens.proofs.Cuts.{pieces_only}
use Rattle.spec_tokens.proofs.one_cut.Goals as goal

pub returns : goal.returns
returns c = pieces_only
