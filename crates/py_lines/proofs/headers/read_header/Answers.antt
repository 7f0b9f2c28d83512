use Rattle.std.proofs.Common.{drop, sym}
use Rattle.py_lines.proofs.Turns.{header_signed, header_none}
use Rattle.py_lines.proofs.headers.read_header.Goals as goal

pub returns-in_default-clause-read : goal.returns-in_default-clause-read
returns-in_default-clause-read c = header_none _ c.in_default.ensures

pub returns-clause-read : goal.returns-clause-read
returns-clause-read c = rw (header_signed c.in-Some.mark (drop c.args.pos c.args.words.now) (drop c.in-Some.start c.args.words.now) c.in-Some.ensures, sym c.line.ensures) c.headed.ensures.read
