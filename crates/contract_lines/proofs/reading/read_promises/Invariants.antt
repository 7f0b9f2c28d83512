use Rattle.std.proofs.Common.{◌≡◌, drop}
use Rattle.spec_contracts.specs.Owners as members
use Rattle.spec_contracts.specs.ContractLines.{lines_among, refusals_among}
use Rattle.contract_entries.specs.Given.{all_entries}
use Rattle.contract_owners.specs.Members.{owner_in}
use Rattle.contract_lines.specs.Given.{Grows, HaveSame}
use Rattle.contract_lines.proofs.Steps.{Continues}
use Rattle.contract_lines.proofs.reading.read_promises.Given as goal

abbrev pub invariant-loop-promise : goal.invariant-loop-promise
invariant-loop-promise l = Grows l.fn.into l.into × ((o : members.Owned) → o.owner ≡ owner_in l.fn.owner → HaveSame l.fn.parameters o.parameters
    → Continues l.fn.into l.into l.fn.reading l.reading (lines_among o (all_entries (drop l.promise-index l.fn.promises))) (refusals_among o (all_entries (drop l.promise-index l.fn.promises))) (lines_among o (all_entries l.fn.promises)) (refusals_among o (all_entries l.fn.promises)))
