use Rattle.spec_verdicts.proofs.Meanings.{confirmed_is}
use Rattle.spec_verdicts.proofs.confirmed_means_every_call.Goals as goal

pub returns : goal.returns
returns c = confirmed_is
