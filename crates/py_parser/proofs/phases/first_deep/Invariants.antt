use Rattle.std.proofs.Common.{◌≡◌, List, drop}
use Rattle.spec_grammar.specs.Blocks.{PlacedLine}
use Rattle.spec_syntax.specs.Phases.{first_deep}
use Rattle.py_placed.specs.Placed.{ArePlaced}
use Rattle.py_parser.proofs.phases.first_deep.Given as goal

abbrev pub invariant-loop-line : goal.invariant-loop-line
invariant-loop-line l = (ps : List PlacedLine) → ArePlaced l.«module» l.lines ps → first_deep (drop l.line-index ps) ≡ first_deep ps
