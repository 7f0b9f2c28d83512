use Rattle.spec_verdicts.proofs.StatusRows.{two_means}
use Rattle.spec_verdicts.proofs.status_2_means_that_some_target_is_refused.Goals as goal

pub returns : goal.returns
returns c = two_means
