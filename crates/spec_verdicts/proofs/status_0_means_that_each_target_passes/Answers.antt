use Rattle.spec_verdicts.proofs.StatusRows.{zero_means}
use Rattle.spec_verdicts.proofs.status_0_means_that_each_target_passes.Goals as goal

pub returns : goal.returns
returns c = zero_means
