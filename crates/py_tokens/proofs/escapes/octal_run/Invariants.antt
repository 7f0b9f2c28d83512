use Rattle.std.proofs.Common.{◌≡◌, ◌+◌, drop}
use Rattle.spec_tokens.specs.Letters.{run, is_octal_digit}
use Rattle.py_tokens.proofs.escapes.octal_run.Given as goal

abbrev pub invariant-loop-i : goal.invariant-loop-i
invariant-loop-i l = run is_octal_digit l.letters ≡ l.i + run is_octal_digit (drop l.i l.letters)
