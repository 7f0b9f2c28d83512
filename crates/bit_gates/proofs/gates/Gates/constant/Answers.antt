use Rattle.std.proofs.Common.{arith}
use Rattle.bit_gates.proofs.Pairs.{valued}
use Rattle.bit_gates.proofs.gates.Gates.constant.Goals as goal

pub returns-clause-below : goal.returns-clause-below
returns-clause-below c = rw (← c.self.view_is) (omega arith)

pub returns-clause-value : goal.returns-clause-value
returns-clause-value c = rw (← c.self.view_is) (λ bits. (valued c.self.inside.gates.keys bits).constant c.args.v)
