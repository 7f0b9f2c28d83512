use Rattle.std.proofs.Common.{◌≡◌, ℕ, suc, length}
use Rattle.spec_types.specs.Widths.{class_width}
use Rattle.given_types.specs.Giving.{all_given}
use Rattle.value_types.specs.Widths.{AreCapped}
use Rattle.type_widths.proofs.levels.next_widths.Given as goal

-- the widths of the classes so far
abbrev pub invariant-loop-types : goal.invariant-loop-types
invariant-loop-types l =
    (length l.widths.items ≡ l.types-index)
    × ((n : ℕ) → AreCapped l.before (class_width (all_given l.module l.taken) l.max_len n) → AreCapped l.widths.items (class_width (all_given l.module l.taken) l.max_len (suc n)))
