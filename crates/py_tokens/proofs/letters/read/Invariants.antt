use Rattle.std.proofs.Common.{◌≡◌, ◌+◌, ◌*◌, ◌≤◌, ◌++◌, length}
use Rattle.spec_tokens.specs.Letters.{read, ends}
use Rattle.py_tokens.proofs.letters.read.Given as goal

abbrev pub invariant-loop-letter : goal.invariant-loop-letter
invariant-loop-letter l = record {
  codes : l.letters.codes.items ++ read l.rest ≡ read l.text;
  ends : l.letters.ends.items ++ ends l.end l.rest ≡ ends l.first l.text;
  room : l.end + 4 * length l.rest ≤ l.first + 4 * length l.text;
}

abbrev pub decreases-loop-letter : goal.decreases-loop-letter
decreases-loop-letter l = length l.rest
