use Rattle.bit_gates.proofs.Pairs.{seen_again}
use Rattle.bit_gates.proofs.laws.seen_again.Goals as goal

pub returns-clause-same : goal.returns-clause-same
returns-clause-same c = λ gs later a b h. (seen_again gs later a b h).0

pub returns-clause-swapped : goal.returns-clause-swapped
returns-clause-swapped c = λ gs later a b h. (seen_again gs later a b h).1
