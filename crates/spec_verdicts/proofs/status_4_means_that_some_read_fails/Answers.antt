use Rattle.spec_verdicts.proofs.StatusRows.{four_means}
use Rattle.spec_verdicts.proofs.status_4_means_that_some_read_fails.Goals as goal

pub returns : goal.returns
returns c = four_means
