use Rattle.bit_gates.proofs.Arenas.{value_negated}
use Rattle.bit_gates.proofs.gates.Gates.not.Goals as goal

pub returns-clause-value : goal.returns-clause-value
returns-clause-value c = λ bits. value_negated c.args.self.now.gates bits c.args.a
