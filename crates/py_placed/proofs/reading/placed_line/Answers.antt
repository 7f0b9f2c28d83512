use Rattle.std.proofs.Common.{refl}
use Rattle.py_words.specs.Lines.{line_seen}
use Rattle.py_placed.proofs.Turns.{line_placed}
use Rattle.py_placed.proofs.reading.placed_line.Goals as goal

pub returns-clause-read : goal.returns-clause-read
returns-clause-read c = line_placed _ (record { depth = c.args.line.now.depth; first = c.line-first.result; last = c.in-Some.last; node = c.in-Ok.node }) (line_seen c.args.line.now) _ refl refl c.line-first.ensures c.in-Ok.ensures.read
