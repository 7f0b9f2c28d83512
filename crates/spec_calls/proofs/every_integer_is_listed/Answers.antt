use Rattle.spec_calls.proofs.Places.{is_listed}
use Rattle.spec_calls.proofs.every_integer_is_listed.Goals as goal

pub returns : goal.returns
returns c = is_listed
