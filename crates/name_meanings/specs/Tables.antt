-- Meanings of names, where some are given other ones.
use Rattle.std.specs.Prelude.{ℕ, List, Option, if◌then◌else◌}
use Rattle.std.specs.Str.{bytes_eq}
use Rattle.spec_contracts.specs.ContractLines.{is_among}
use Rattle.spec_names.specs.Members.{Member}
use Rattle.spec_uses.specs.declared.Meaning.{Meaning}
use Rattle.spec_uses.specs.Meanings.{meant_by, otherwise}

-- one name has this meaning
abbrev pub with_name : List ℕ → Meaning → (List ℕ → Meaning) → List ℕ → Meaning
with_name y m f x = if bytes_eq y x then m else f x

-- these names have it
abbrev pub with_names : List (List ℕ) → Meaning → (List ℕ → Meaning) → List ℕ → Meaning
with_names ys m f x = if is_among ys x then m else f x

-- the names that a statement defines have their meanings
abbrev pub with_member : Option Member → (List ℕ → Meaning) → List ℕ → Meaning
with_member o f x = otherwise (meant_by o x) (f x)
