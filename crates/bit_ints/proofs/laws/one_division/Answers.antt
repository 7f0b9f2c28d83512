use Rattle.bit_ints.proofs.Dividing.{one_quotient, one_remainder}
use Rattle.bit_ints.proofs.laws.one_division.Goals as goal

pub returns-clause-quotient : goal.returns-clause-quotient
returns-clause-quotient c = one_quotient

pub returns-clause-remainder : goal.returns-clause-remainder
returns-clause-remainder c = one_remainder
