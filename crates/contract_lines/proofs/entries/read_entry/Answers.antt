use Rattle.contract_lines.proofs.Steps.{head_read, on_ok}
use Rattle.contract_lines.proofs.entries.read_entry.Goals as goal

pub returns-clause-read : goal.returns-clause-read
returns-clause-read c = on_ok c.append.result _ _ (λ more o is. head_read c.args.into.now c.line_of.new.into c.line_of.ensures.grown.extends c.names_count.ensures.«module» c.args.reading.now (record { lines = c.append.new.lines; refusal = c.told_behind-reading.result }) c.args.head c.args.entry.now c.in_ok-line.line c.is_none.result o is (c.in_ok-line.ensures {u = tt}).line more c.is_none.ensures c.told_behind-reading.ensures) c.append.ensures
