use Rattle.std.proofs.Common.{◌≡◌, ◌++◌, List, drop, map}
use Rattle.spec_grammar.specs.Blocks.{PlacedLine}
use Rattle.py_outline.specs.Outlines.{outline_of}
use Rattle.py_placed.specs.Placed.{ArePlaced}
use Rattle.py_parser.proofs.phases.outlines.Given as goal

abbrev pub invariant-loop-line : goal.invariant-loop-line
invariant-loop-line l = (ps : List PlacedLine) → ArePlaced l.«module» l.lines ps → map outline_of ps ≡ l.outlines.items ++ map outline_of (drop l.line-index ps)
