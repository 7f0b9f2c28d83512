use Rattle.std.proofs.Common.{length}
use Rattle.sat_core.proofs.search.+search.Given as goal

abbrev pub decreases-search : goal.decreases-search
decreases-search l = length l.vars.now
