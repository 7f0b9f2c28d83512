use Rattle.std.proofs.Common.{◌≡◌, ◌+◌, drop}
use Rattle.py_tokens.specs.Steps.{first_line}
use Rattle.py_tokens.proofs.letters.line_length.Given as goal

abbrev pub invariant-loop-i : goal.invariant-loop-i
invariant-loop-i l = first_line l.letters ≡ l.i + first_line (drop l.i l.letters)
