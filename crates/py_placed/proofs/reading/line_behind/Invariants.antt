use Rattle.std.proofs.Common.{◌≡◌, ◌+◌, take}
use Rattle.py_placed.specs.Extents.{line_feeds}
use Rattle.py_placed.proofs.reading.line_behind.Given as goal

abbrev pub invariant-loop-byte : goal.invariant-loop-byte
invariant-loop-byte l = l.last ≡ l.line + line_feeds (take l.byte-index l.text)
