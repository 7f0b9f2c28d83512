use Rattle.std.proofs.Common.{◌≡◌, ◌++◌, drop, map, None}
use Rattle.std.specs.Option.{option_map}
use Rattle.spec_contracts.specs.Entries.{entries}
use Rattle.contract_entries.specs.Given.{all_entries, block_entries, block_in, line_in}
use Rattle.contract_entries.proofs.turns.promises.Given as goal

abbrev pub invariant-loop-line : goal.invariant-loop-line
invariant-loop-line l = entries l.docstring.raw None (map line_in l.line-items) ≡ (all_entries l.promises.items ++ block_entries l.block) ++ entries l.docstring.raw (option_map block_in l.block) (map line_in (drop l.line-index l.line-items))
