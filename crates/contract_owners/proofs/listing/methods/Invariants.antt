use Rattle.contract_owners.proofs.Owning.{AreMethodsTo}
use Rattle.contract_owners.proofs.listing.methods.Given as goal

abbrev pub invariant-loop-s : goal.invariant-loop-s
invariant-loop-s l = AreMethodsTo l.module l.body l.before l.fn.into.items l.into.items l.functions l.s-index
