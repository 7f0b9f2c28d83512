use Rattle.std.proofs.Common.{◌≡◌, ◌≤◌, map}
use Rattle.spec_syntax.specs.Lines.{word_lines}
use Rattle.py_words.specs.Lines.{line_seen}
use Rattle.py_words.proofs.LogicalLines.{read_to}
use Rattle.py_words.proofs.lines.word_lines.Given as goal

abbrev pub invariant-loop-place : goal.invariant-loop-place
invariant-loop-place l = record {
  bounded : l.depth ≤ l.place;
  read : read_to l.tokens.scan (map line_seen l.lines.items) l.words l.depth l.place ≡ word_lines l.tokens.scan;
}
