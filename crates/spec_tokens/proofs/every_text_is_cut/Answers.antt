use Rattle.spec_tokens.proofs.Cuts.{are_pieces}
use Rattle.spec_tokens.proofs.every_text_is_cut.Goals as goal

pub returns : goal.returns
returns c = are_pieces
