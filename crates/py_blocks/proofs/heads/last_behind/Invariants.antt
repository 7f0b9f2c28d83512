use Rattle.std.proofs.Common.{◌≡◌, drop, map}
use Rattle.py_placed.specs.Extents.{last_of, span_of}
use Rattle.py_blocks.proofs.heads.last_behind.Given as goal

-- what is left to pass tells the same line
abbrev pub invariant-lines : goal.invariant-lines
invariant-lines l = last_of l.depth l.last (map span_of (drop l.pos l.lines)) ≡ last_of l.depth l.fn.end (map span_of (drop l.start l.lines))
