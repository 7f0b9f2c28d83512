use Rattle.spec_grammar.proofs.HeaderLaws.{line_is}
use Rattle.spec_grammar.proofs.read_is_a_line.Goals as goal

pub returns : goal.returns
returns c = line_is
