use Rattle.std.proofs.Common.{◌≡◌, drop, map}
use Rattle.spec_syntax.specs.Phases.{first_where, is_overloaded, number_of_words}
use Rattle.py_words.specs.Lines.{line_seen}
use Rattle.py_loads.proofs.loads.first_overloaded.Given as goal

abbrev pub invariant-loop-line : goal.invariant-loop-line
invariant-loop-line l =
    first_where is_overloaded number_of_words (map line_seen (drop l.line-index l.lines)) ≡ first_where is_overloaded number_of_words (map line_seen l.lines)
