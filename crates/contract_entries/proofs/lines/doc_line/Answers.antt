use Rattle.contract_entries.proofs.Lining.{line_is}
use Rattle.contract_entries.proofs.lines.doc_line.Goals as goal

pub returns : goal.returns
returns c = line_is c.args.number c.indent-indent.result c.args.letters.now c.indent-indent.ensures.run
