use Rattle.spec_syntax.proofs.PhaseLaws.{is_parsed}
use Rattle.spec_syntax.proofs.every_text_has_an_outcome.Goals as goal

pub returns : goal.returns
returns c = is_parsed
