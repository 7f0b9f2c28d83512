use Rattle.std.proofs.Common.{◌≡◌, ◌+◌, length}
use Rattle.spec_tokens.specs.Cutting.{tail, longer}
use Rattle.py_tokens.proofs.strings.tail.Given as goal

abbrev pub invariant-loop-letter : goal.invariant-loop-letter
invariant-loop-letter l = record {
  tail : longer l.passed (tail l.long l.quote l.rest) ≡ tail l.long l.quote l.letters;
  place : l.passed + length l.rest ≡ length l.letters;
}

abbrev pub decreases-loop-letter : goal.decreases-loop-letter
decreases-loop-letter l = length l.rest
