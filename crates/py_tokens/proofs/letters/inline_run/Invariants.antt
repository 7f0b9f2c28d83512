use Rattle.std.proofs.Common.{◌≡◌, ◌+◌, drop}
use Rattle.spec_tokens.specs.Letters.{run, is_inline}
use Rattle.py_tokens.proofs.letters.inline_run.Given as goal

abbrev pub invariant-loop-i : goal.invariant-loop-i
invariant-loop-i l = run is_inline l.letters ≡ l.i + run is_inline (drop l.i l.letters)
