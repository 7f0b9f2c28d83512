use Rattle.spec_contracts.proofs.Laws.{first_is_soonest}
use Rattle.spec_contracts.proofs.the_first_refusal_is_the_soonest.Goals as goal

pub returns : goal.returns
returns c = first_is_soonest
