use Rattle.spec_grammar.proofs.HeaderLaws.{is_line}
use Rattle.spec_grammar.proofs.every_line_is_read.Goals as goal

pub returns : goal.returns
returns c = is_line
