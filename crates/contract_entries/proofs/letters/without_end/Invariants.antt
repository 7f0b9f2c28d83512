use Rattle.std.proofs.Common.{◌≡◌, length}
use Rattle.contract_entries.specs.Letters.{without_end}
use Rattle.contract_entries.proofs.letters.without_end.Given as goal

abbrev pub invariant-loop-last : goal.invariant-loop-last
invariant-loop-last l = without_end l.rest ≡ without_end l.letters

abbrev pub decreases-loop-last : goal.decreases-loop-last
decreases-loop-last l = length l.rest
