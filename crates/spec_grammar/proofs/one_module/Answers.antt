use Rattle.spec_grammar.proofs.BlockLaws.{one_module}
use Rattle.spec_grammar.proofs.one_module.Goals as goal

pub returns : goal.returns
returns c = one_module
