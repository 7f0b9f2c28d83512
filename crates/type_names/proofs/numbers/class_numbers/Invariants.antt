use Rattle.std.proofs.Common.{◌≡◌, ◌≤◌, length, map}
use Rattle.type_names.proofs.Named.{numbers_from}
use Rattle.type_names.proofs.numbers.class_numbers.Given as goal

abbrev pub invariant-loop-behind : goal.invariant-loop-behind
invariant-loop-behind l = (l.numbers.items ≡ map (numbers_from l.module l.classes l.behind) l.module.names) × (l.behind ≤ length l.classes)

abbrev pub decreases-loop-behind : goal.decreases-loop-behind
decreases-loop-behind l = l.behind
