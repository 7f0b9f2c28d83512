use Rattle.std.proofs.Common.{◌≡◌, ◌+◌, drop}
use Rattle.spec_tokens.specs.Letters.{run, continues_name}
use Rattle.py_tokens.proofs.names.name_run.Given as goal

abbrev pub invariant-loop-i : goal.invariant-loop-i
invariant-loop-i l = run continues_name l.letters ≡ l.i + run continues_name (drop l.i l.letters)
