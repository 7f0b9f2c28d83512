use Rattle.std.proofs.Common.{◌≡◌, ◌==◌, ◌++◌, ◌∷◌, map}
use Rattle.std.specs.List.{slice_split}
use Rattle.std.specs.Option.{option_map}
use Rattle.spec_contracts.specs.Docstrings.{numbered}
use Rattle.contract_entries.specs.Given.{line_in}
use Rattle.contract_entries.specs.Letters.{parts_of, size_of}
use Rattle.contract_entries.proofs.lines.numbered.Given as goal

abbrev pub invariant-loop-lines : goal.invariant-loop-lines
invariant-loop-lines l = numbered l.fn.line (slice_split (λ c. c == 10) l.fn.letters) ≡ map line_in l.lines.items ++ numbered l.number (l.letters ∷ parts_of (λ c. c == 10) (option_map (λ s. s.now) l.rest))

abbrev pub decreases-loop-lines : goal.decreases-loop-lines
decreases-loop-lines l = size_of (option_map (λ s. s.now) l.rest)
