use Rattle.std.proofs.Common.{◌≡◌, ◌+◌, ◌≤◌, ◌++◌, zero, length}
use Rattle.spec_tokens.specs.Cutting.{cut, pieces_of}
use Rattle.py_tokens.proofs.cutting.pieces.Given as goal

abbrev pub invariant-loop-rest : goal.invariant-loop-rest
invariant-loop-rest l = record {
  pieces : l.pieces.items ++ cut l.start l.line zero l.rest ≡ pieces_of l.letters;
  place : l.start + length l.rest ≡ length l.letters;
  line : l.line + length l.rest ≤ length l.letters + 1;
}

abbrev pub decreases-loop-rest : goal.decreases-loop-rest
decreases-loop-rest l = length l.rest
