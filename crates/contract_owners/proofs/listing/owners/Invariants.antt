use Rattle.contract_owners.proofs.Owning.{AreOwnersTo}
use Rattle.contract_owners.proofs.listing.owners.Given as goal

abbrev pub invariant-loop-i : goal.invariant-loop-i
invariant-loop-i l = AreOwnersTo l.module l.owners.items l.functions l.classes l.i
