use Rattle.spec_names.specs.Refusals.{line_in, number_in}
use Rattle.spec_refusals.proofs.Laws.{soonest_is_first}
use Rattle.spec_names.proofs.the_first_refusal_is_the_soonest.Goals as goal

pub returns : goal.returns
returns c = soonest_is_first line_in number_in
