use Rattle.std.proofs.Common.{◌≡◌, zero, length, is_some}
use Rattle.spec_tokens.specs.Values.{unescaped}
use Rattle.py_tokens.proofs.escapes.inside_has_value.Given as goal

abbrev pub invariant-loop-letter : goal.invariant-loop-letter
invariant-loop-letter l = is_some (unescaped zero l.letters) ≡ is_some (unescaped zero l.rest)

abbrev pub decreases-loop-letter : goal.decreases-loop-letter
decreases-loop-letter l = length l.rest
