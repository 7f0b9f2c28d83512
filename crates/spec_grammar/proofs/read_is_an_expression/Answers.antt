use Rattle.spec_grammar.proofs.Laws.{expr_is}
use Rattle.spec_grammar.proofs.read_is_an_expression.Goals as goal

pub returns : goal.returns
returns c = expr_is
