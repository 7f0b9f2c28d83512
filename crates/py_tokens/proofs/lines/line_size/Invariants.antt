use Rattle.std.proofs.Common.{◌≡◌, ◌+◌, [], length}
use Rattle.py_tokens.specs.Steps.{line_size}
use Rattle.py_tokens.proofs.lines.line_size.Given as goal

abbrev pub invariant-loop-piece : goal.invariant-loop-piece
invariant-loop-piece l = record {
  size : l.size + line_size l.brackets l.rest ≡ line_size [] l.pieces;
  place : l.size + length l.rest ≡ length l.pieces;
}

abbrev pub decreases-loop-piece : goal.decreases-loop-piece
decreases-loop-piece l = length l.rest
