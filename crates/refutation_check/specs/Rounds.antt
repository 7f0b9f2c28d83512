-- The rounds of slots.
use Rattle.std.specs.Prelude.{ℕ}
use Rattle.refutation_check.specs.declared.slots.Slot.{Slot}
use Rattle.refutation_check.specs.declared.slots.Slot.TheVariants as slot

-- the round of a literal that is noted, and 0 where none is
abbrev pub round_of : Slot → ℕ
round_of slot.Free = 0
round_of (slot.Kept l) = 0
round_of (slot.Noted l r) = r
