use Rattle.spec_verdicts.proofs.StatusRows.{one_means}
use Rattle.spec_verdicts.proofs.status_1_means_that_some_target_fails.Goals as goal

pub returns : goal.returns
returns c = one_means
