use Rattle.spec_calls.proofs.Places.{in_order}
use Rattle.spec_calls.proofs.integers_are_in_order.Goals as goal

pub returns : goal.returns
returns c = in_order
