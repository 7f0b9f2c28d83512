use Rattle.std.proofs.Common.{◌≡◌, ◌≤◌, length, map}
use Rattle.py_program.proofs.Named.{numbers_from}
use Rattle.py_program.proofs.numbers.first_numbers.Given as goal

abbrev pub invariant-loop-behind : goal.invariant-loop-behind
invariant-loop-behind l = record {
  numbers : l.numbers.items ≡ map (numbers_from l.module.names l.listed l.behind) l.module.names;
  size : length l.numbers.items ≡ length l.module.names;
  place : l.behind ≤ length l.listed;
}

abbrev pub decreases-loop-behind : goal.decreases-loop-behind
decreases-loop-behind l = l.behind
