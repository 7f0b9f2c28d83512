use Rattle.std.proofs.Common.{◌≡◌, drop}
use Rattle.spec_tokens.specs.Lines.{is_full}
use Rattle.py_tokens.proofs.lines.is_full.Given as goal

abbrev pub invariant-loop-piece : goal.invariant-loop-piece
invariant-loop-piece l = is_full (drop l.piece-index l.line) ≡ is_full l.line
