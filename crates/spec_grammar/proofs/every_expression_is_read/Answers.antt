use Rattle.spec_grammar.proofs.Laws.{is_expr}
use Rattle.spec_grammar.proofs.every_expression_is_read.Goals as goal

pub returns : goal.returns
returns c = is_expr
