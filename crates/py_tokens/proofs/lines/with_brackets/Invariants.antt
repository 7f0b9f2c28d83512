use Rattle.std.proofs.Common.{◌≡◌, [], length}
use Rattle.spec_tokens.specs.Refusals.{earlier, first_of}
use Rattle.spec_tokens.specs.Lines.{bracket_refusals}
use Rattle.py_tokens.proofs.lines.with_brackets.Given as goal

abbrev pub invariant-loop-piece : goal.invariant-loop-piece
invariant-loop-piece l = earlier l.told (first_of (bracket_refusals l.brackets l.rest)) ≡ earlier l.fn.first (first_of (bracket_refusals [] l.pieces))

abbrev pub decreases-loop-piece : goal.decreases-loop-piece
decreases-loop-piece l = length l.rest
