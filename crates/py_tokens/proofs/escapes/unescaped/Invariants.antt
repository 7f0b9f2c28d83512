use Rattle.std.proofs.Common.{◌≡◌, ◌++◌, zero, length}
use Rattle.std.specs.Option.{option_map}
use Rattle.spec_tokens.specs.Values.{unescaped}
use Rattle.py_tokens.proofs.escapes.unescaped.Given as goal

abbrev pub invariant-loop-letter : goal.invariant-loop-letter
invariant-loop-letter l = unescaped zero l.letters ≡ option_map (λ v. l.text ++ v) (unescaped zero l.rest)

abbrev pub decreases-loop-letter : goal.decreases-loop-letter
decreases-loop-letter l = length l.rest
