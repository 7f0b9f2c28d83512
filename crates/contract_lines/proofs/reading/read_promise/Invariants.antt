use Rattle.std.proofs.Common.{◌≡◌, drop, map}
use Rattle.spec_contracts.specs.Owners as members
use Rattle.spec_contracts.specs.ContractLines.{lines_among, refusals_among}
use Rattle.contract_entries.specs.Given.{entries_in, entry_in, promise_in}
use Rattle.contract_owners.specs.Members.{owner_in}
use Rattle.contract_lines.specs.Given.{Grows, HaveSame, IsListThere, promise_of}
use Rattle.contract_lines.proofs.Steps.{Continues}
use Rattle.contract_lines.proofs.reading.read_promise.Given as goal

abbrev pub invariant-loop-entry : goal.invariant-loop-entry
invariant-loop-entry l = Grows l.fn.into l.into × IsListThere l.into l.head.names × (promise_of l.into l.head ≡ promise_in l.promise)
    × ((o : members.Owned) → o.owner ≡ owner_in l.fn.owner → HaveSame l.parameters o.parameters
    → Continues l.fn.into l.into l.fn.reading l.reading (lines_among o (map (entry_in (promise_in l.promise)) (drop l.entry-index l.entry-items))) (refusals_among o (map (entry_in (promise_in l.promise)) (drop l.entry-index l.entry-items))) (lines_among o (entries_in l.promise)) (refusals_among o (entries_in l.promise)))
