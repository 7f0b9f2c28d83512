use Rattle.std.proofs.Common.{◌≡◌, drop}
use Rattle.std.specs.List.{list_all}
use Rattle.spec_contracts.specs.ContractLines.{is_exception}
use Rattle.contract_lines.proofs.names.are_exceptions.Given as goal

abbrev pub invariant-loop-name : goal.invariant-loop-name
invariant-loop-name l = list_all is_exception l.names ≡ list_all is_exception (drop l.name-index l.names)
