use Rattle.spec_verdicts.proofs.Meanings.{unmet_is}
use Rattle.spec_verdicts.proofs.unmet_means_that_no_call_meets_them.Goals as goal

pub returns : goal.returns
returns c = unmet_is
