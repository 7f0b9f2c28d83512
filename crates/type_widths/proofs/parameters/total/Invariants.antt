use Rattle.std.proofs.Common.{◌≡◌, ℕ, Option, map, take}
use Rattle.std.specs.Option.{option_map}
use Rattle.spec_types.specs.Widths.{total}
use Rattle.given_types.specs.Giving.{given_in}
use Rattle.value_types.specs.Widths.{AreCapped, capped}
use Rattle.type_widths.proofs.parameters.total.Given as goal

-- the widths of the parameters so far
abbrev pub invariant-loop-given : goal.invariant-loop-given
invariant-loop-given l = (of_class : ℕ → Option ℕ) → AreCapped l.classes of_class → l.total ≡ option_map capped (total l.max_len of_class (map (given_in l.module) (take l.given-index l.types)))
