-- A line that is kept, as definitions see it.
use Rattle.spec_syntax.specs.Lines as syntax
use Rattle.py_words.specs.declared.lines.WordLine.{WordLine}

abbrev pub line_seen : WordLine → syntax.WordLine
line_seen l = record { depth = l.depth; words = l.words }
