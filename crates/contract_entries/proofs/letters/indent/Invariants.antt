use Rattle.std.proofs.Common.{◌≡◌, ◌+◌, drop}
use Rattle.spec_tokens.specs.Letters.{run, is_blank}
use Rattle.contract_entries.proofs.letters.indent.Given as goal

abbrev pub invariant-loop-i : goal.invariant-loop-i
invariant-loop-i l = run is_blank l.letters ≡ l.i + run is_blank (drop l.i l.letters)
