-- Widths that are counted up to where they are too great.
use Rattle.std.specs.Prelude.{◌≡◌, ◌<◌, ℕ, suc, nat_lt, List, [], ◌∷◌, length, slice_index_or, Option, Some, None, if◌then◌else◌}
use Rattle.std.specs.Option.{option_map}
use Rattle.spec_types.specs.Types.{ValueType, is_none, none}
use Rattle.spec_types.specs.Widths.{greatest_width, plus, width_in}

-- All widths that are too great count as the least of them.
abbrev pub capped : ℕ → ℕ
capped n = if nat_lt greatest_width n then suc greatest_width else n

-- These are the widths of classes, counted so.
abbrev pub AreCapped : List (Option ℕ) → (ℕ → Option ℕ) → Type 0
AreCapped ws of_class = (k : ℕ) → k < length ws → slice_index_or ws k None ≡ option_map capped (of_class k)

-- the widths of types together
abbrev pub widths : ℕ → (ℕ → Option ℕ) → List ValueType → Option ℕ
widths max_len of_class [] = Some 0
widths max_len of_class (t ∷ ts) = plus (width_in max_len of_class t) (widths max_len of_class ts)

-- the first type that is not None, or None where there is no other
abbrev pub first_other : List ValueType → ValueType
first_other [] = none
first_other (t ∷ ts) = if is_none t then first_other ts else t
