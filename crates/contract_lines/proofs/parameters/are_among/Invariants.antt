use Rattle.std.proofs.Common.{◌≡◌, drop}
use Rattle.std.specs.List.{list_all}
use Rattle.spec_contracts.specs.ContractLines.{is_among}
use Rattle.contract_lines.proofs.parameters.are_among.Given as goal

abbrev pub invariant-loop-name : goal.invariant-loop-name
invariant-loop-name l = list_all (is_among l.parameters) l.names ≡ list_all (is_among l.parameters) (drop l.name-index l.names)
