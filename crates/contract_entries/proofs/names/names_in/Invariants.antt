use Rattle.std.proofs.Common.{◌≡◌, ◌==◌}
use Rattle.std.specs.Option.{option_map}
use Rattle.spec_contracts.specs.Heads.{all_named, names_in}
use Rattle.contract_entries.specs.Letters.{parts_of, size_of}
use Rattle.contract_entries.specs.Names.{behind_names}
use Rattle.contract_entries.proofs.names.names_in.Given as goal

abbrev pub invariant-loop-rest : goal.invariant-loop-rest
invariant-loop-rest l = names_in l.fn.letters ≡ behind_names l.names.items (all_named (parts_of (λ c. c == 44) (option_map (λ s. s.now) l.rest)))

abbrev pub decreases-loop-rest : goal.decreases-loop-rest
decreases-loop-rest l = size_of (option_map (λ s. s.now) l.rest)
