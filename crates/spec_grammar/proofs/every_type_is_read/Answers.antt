use Rattle.spec_grammar.proofs.TypeLaws.{is_type}
use Rattle.spec_grammar.proofs.every_type_is_read.Goals as goal

pub returns : goal.returns
returns c = is_type
