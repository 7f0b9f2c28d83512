use Rattle.spec_grammar.proofs.TypeLaws.{type_is}
use Rattle.spec_grammar.proofs.read_is_a_type.Goals as goal

pub returns : goal.returns
returns c = type_is
