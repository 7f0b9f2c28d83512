use Rattle.std.proofs.Common.{◌∙◌, ap, not}
use Rattle.contract_lines.proofs.Lines.{line_there}
use Rattle.contract_lines.proofs.entries.spelled_line.Goals as goal

pub returns-clause-line : goal.returns-clause-line
returns-clause-line c = line_there c.args.into.now c.spelled.new.into c.spelled.ensures.grown.extends c.names_count.ensures.«module» c.args.head c.requires c.args.line c.args.letters.now c.in_ok-expr.expr (c.is_none.ensures ∙ ap not c.if-is_none.false) (c.in_ok-expr.ensures {u = tt}).expression
