use Rattle.spec_verdicts.proofs.Meanings.{error_is}
use Rattle.spec_verdicts.proofs.an_error_is_the_first_that_breaks.Goals as goal

pub returns : goal.returns
returns c = error_is
