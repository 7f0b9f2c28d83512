use Rattle.std.proofs.Common.{◌≡◌, ◌+◌, ◌≤◌, drop}
use Rattle.spec_tokens.specs.Pieces.{line_feeds}
use Rattle.py_tokens.proofs.cutting.line_feeds.Given as goal

abbrev pub invariant-loop-letter : goal.invariant-loop-letter
invariant-loop-letter l = record {
  count : line_feeds l.letters ≡ l.count + line_feeds (drop l.letter-index l.letters);
  within : l.count ≤ l.letter-index;
}
