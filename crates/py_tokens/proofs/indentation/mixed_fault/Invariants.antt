use Rattle.std.proofs.Common.{◌≡◌, drop, not, ◌==◌}
use Rattle.std.specs.List.{list_any}
use Rattle.py_tokens.proofs.indentation.mixed_fault.Given as goal

abbrev pub invariant-loop-letter : goal.invariant-loop-letter
invariant-loop-letter l = list_any (λ d. not (d == l.unit)) (drop l.letter-index l.leading) ≡ list_any (λ d. not (d == l.unit)) l.leading
