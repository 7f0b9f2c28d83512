use Rattle.spec_grammar.proofs.TypeLaws.{one_type}
use Rattle.spec_grammar.proofs.one_type.Goals as goal

pub returns : goal.returns
returns c = one_type
