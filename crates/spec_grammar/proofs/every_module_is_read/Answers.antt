use Rattle.spec_grammar.proofs.BlockLaws.{is_module}
use Rattle.spec_grammar.proofs.every_module_is_read.Goals as goal

pub returns : goal.returns
returns c = is_module
