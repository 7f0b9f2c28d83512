use Rattle.std.proofs.Common.{◌≡◌, ◌+◌, ◌==◌, drop}
use Rattle.std.specs.List.{position_or_len}
use Rattle.contract_entries.proofs.letters.cut.Given as goal

abbrev pub invariant-loop-i : goal.invariant-loop-i
invariant-loop-i l = position_or_len (λ c. c == l.separator) l.letters ≡ l.i + position_or_len (λ c. c == l.separator) (drop l.i l.letters)
