-- What slots say, and what clauses give by that.
use Rattle.std.specs.Prelude.{◌≢◌, ◌⊎◌, ℕ, List, map, Option, Some, None, Contains, nat_eq, if◌then◌else◌}
use Rattle.std.specs.List.{All, filter_map}
use Rattle.refutation_check.specs.declared.lit.SatLit.{SatLit}
use Rattle.refutation_check.specs.declared.slots.Slots.{Slots}
use Rattle.refutation_check.specs.declared.slots.Slot.{Slot}
use Rattle.refutation_check.specs.declared.slots.Slot.TheVariants as slot
use Rattle.refutation_check.specs.declared.hints.Seen.{Seen}
use Rattle.refutation_check.specs.declared.hints.Seen.TheVariants as seen
use Rattle.refutation_check.specs.Truth.{negated}

-- a literal is kept
abbrev pub IsKept : Slots → SatLit → Type 0
IsKept s l = Contains s.slots.items (slot.Kept l)

-- a literal is kept or noted in this round
abbrev pub IsTold : Slots → SatLit → Type 0
IsTold s l = IsKept s l ⊎ Contains s.slots.items (slot.Noted l s.round)

-- a literal is the last one of a clause where each other one is false
pub record IsLast (s : Slots) (c : List SatLit) (l : SatLit) : Type 0 where
  pub there : Contains c l
  pub others : All (λ k. k ≢ l → IsTold s (negated k)) c

-- what a clause gives
abbrev pub IsSeen : Slots → List SatLit → Seen → Type 0
IsSeen s c seen.Nothing = Unit {0}
IsSeen s c (seen.Last l) = IsLast s c l
IsSeen s c seen.False = All (λ k. IsTold s (negated k)) c

-- the literal that is kept in a slot
abbrev pub kept_of : Slot → Option SatLit
kept_of slot.Free = None
kept_of (slot.Kept l) = Some l
kept_of (slot.Noted l r) = None

-- the literals that are kept
abbrev pub kept_in : Slots → List SatLit
kept_in s = filter_map kept_of s.slots.items

-- the literal of a slot that is kept or noted in a round
abbrev pub told_of : ℕ → Slot → Option SatLit
told_of round slot.Free = None
told_of round (slot.Kept l) = Some l
told_of round (slot.Noted l r) = if nat_eq r round then Some l else None

-- the literals that are kept or noted in this round
abbrev pub told_in : Slots → List SatLit
told_in s = filter_map (told_of s.round) s.slots.items

-- a literal of a clause is true, by what is told or as the negation of another one
pub record IsDenied (s : Slots) (c : List SatLit) : Type 0 where
  pub lit : SatLit
  pub there : Contains c lit
  pub told : IsTold s lit ⊎ Contains (map negated c) lit
