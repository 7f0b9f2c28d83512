use Rattle.std.proofs.Common.{◌≡◌, drop, take, map}
use Rattle.spec_syntax.specs.Phases.{read_lines}
use Rattle.py_statements.specs.Given.{Grows}
use Rattle.py_words.specs.Lines.{line_seen}
use Rattle.py_placed.specs.Extents.{span_of, span_of_words}
use Rattle.py_placed.proofs.Turns.{IsBegun}
use Rattle.py_placed.proofs.reading.read_lines.Given as goal

abbrev pub invariant-loop-line : goal.invariant-loop-line
invariant-loop-line l = record {
  grown : Grows l.initial.into l.into;
  begun : IsBegun l.into l.list.items (read_lines (map line_seen (drop l.line-index l.lines))) (read_lines (map line_seen l.lines));
  spans : map span_of l.list.items ≡ map span_of_words (map line_seen (take l.line-index l.lines));
}
