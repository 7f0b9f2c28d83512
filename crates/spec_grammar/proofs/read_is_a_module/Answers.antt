use Rattle.spec_grammar.proofs.BlockLaws.{module_is}
use Rattle.spec_grammar.proofs.read_is_a_module.Goals as goal

pub returns : goal.returns
returns c = module_is
