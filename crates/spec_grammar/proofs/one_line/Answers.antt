use Rattle.spec_grammar.proofs.HeaderLaws.{one_line}
use Rattle.spec_grammar.proofs.one_line.Goals as goal

pub returns : goal.returns
returns c = one_line
