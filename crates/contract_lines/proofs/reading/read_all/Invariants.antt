use Rattle.std.proofs.Common.{drop, map}
use Rattle.spec_contracts.specs.ContractLines.{all_lines, all_refusals}
use Rattle.contract_owners.specs.Members.{AreThere, owned_in}
use Rattle.contract_lines.specs.Given.{Grows}
use Rattle.contract_lines.proofs.Steps.{Continues}
use Rattle.contract_lines.proofs.reading.read_all.Given as goal

abbrev pub invariant-loop-owned : goal.invariant-loop-owned
invariant-loop-owned l = Grows l.fn.into l.into × AreThere l.fn.into (drop l.owned-index l.fn.owners)
    × Continues l.fn.into l.into l.fn.reading l.reading (all_lines (map (owned_in l.fn.into) (drop l.owned-index l.fn.owners))) (all_refusals (map (owned_in l.fn.into) (drop l.owned-index l.fn.owners))) (all_lines (map (owned_in l.fn.into) l.fn.owners)) (all_refusals (map (owned_in l.fn.into) l.fn.owners))
