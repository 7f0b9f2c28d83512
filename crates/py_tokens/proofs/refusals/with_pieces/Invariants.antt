use Rattle.std.proofs.Common.{◌≡◌, length}
use Rattle.spec_tokens.specs.Refusals.{earlier, first_of, piece_refusals}
use Rattle.py_tokens.proofs.refusals.with_pieces.Given as goal

abbrev pub invariant-loop-piece : goal.invariant-loop-piece
invariant-loop-piece l = earlier l.told (first_of (piece_refusals l.letters l.rest)) ≡ earlier l.fn.first (first_of (piece_refusals l.letters l.pieces))

abbrev pub decreases-loop-piece : goal.decreases-loop-piece
decreases-loop-piece l = length l.rest
