use Rattle.std.proofs.Common.{◌≡◌, ◌++◌, length}
use Rattle.spec_tokens.specs.Tokens.{line_tokens}
use Rattle.py_tokens.proofs.building.push_line.Given as goal

abbrev pub invariant-loop-piece : goal.invariant-loop-piece
invariant-loop-piece l = l.tokens.items ++ line_tokens l.letters l.rest ≡ l.initial.tokens.items ++ line_tokens l.letters l.line

abbrev pub decreases-loop-piece : goal.decreases-loop-piece
decreases-loop-piece l = length l.rest
