use Rattle.std.proofs.Common.{◌≡◌, drop}
use Rattle.py_outline.specs.Reach.{line_start, reach_of}
use Rattle.py_loads.proofs.loads.is_overloaded.Given as goal

abbrev pub invariant-loop-pos : goal.invariant-loop-pos
invariant-loop-pos l = reach_of l.load (drop l.pos l.line.words) ≡ reach_of line_start l.line.words
