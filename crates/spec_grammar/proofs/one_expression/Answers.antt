use Rattle.spec_grammar.proofs.Laws.{one_expr}
use Rattle.spec_grammar.proofs.one_expression.Goals as goal

pub returns : goal.returns
returns c = one_expr
