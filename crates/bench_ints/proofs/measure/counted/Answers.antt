use Rattle.bit_ints.proofs.Digits.{below_later, grown_length}
use Rattle.bench_ints.proofs.measure.counted.Goals as goal

pub make-requires-clause-left : goal.make-requires-clause-left
make-requires-clause-left c = below_later _ _ _ c.in_ok-a.ensures.below (grown_length _ _ c.in_ok-b.ensures.grown)
