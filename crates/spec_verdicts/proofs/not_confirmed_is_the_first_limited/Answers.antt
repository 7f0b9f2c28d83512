use Rattle.spec_verdicts.proofs.Meanings.{not_confirmed_is}
use Rattle.spec_verdicts.proofs.not_confirmed_is_the_first_limited.Goals as goal

pub returns : goal.returns
returns c = not_confirmed_is
