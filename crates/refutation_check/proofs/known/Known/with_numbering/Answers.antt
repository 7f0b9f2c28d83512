use Rattle.refutation_check.proofs.Cuts.{listed_kept}
use Rattle.refutation_check.proofs.known.Known.with_numbering.Goals as goal

pub returns : goal.returns
returns c = λ l t. c.in_ok-slots.ensures l (listed_kept c.in_ok-slots.slots l t)
