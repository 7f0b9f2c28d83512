use Rattle.std.proofs.Common.{◌≡◌, drop}
use Rattle.std.specs.List.{list_all}
use Rattle.spec_tokens.specs.Letters.{continues_name}
use Rattle.contract_entries.proofs.names.continue_name.Given as goal

abbrev pub invariant-loop-letter : goal.invariant-loop-letter
invariant-loop-letter l = list_all continues_name l.letters ≡ list_all continues_name (drop l.letter-index l.letters)
