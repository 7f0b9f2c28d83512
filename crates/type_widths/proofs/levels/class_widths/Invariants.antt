use Rattle.std.proofs.Common.{◌≡◌, length}
use Rattle.spec_types.specs.Widths.{class_width}
use Rattle.given_types.specs.Giving.{all_given}
use Rattle.value_types.specs.Widths.{AreCapped}
use Rattle.type_widths.proofs.levels.class_widths.Given as goal

-- the widths at this level
abbrev pub invariant-loop-level : goal.invariant-loop-level
invariant-loop-level l = (length l.widths.items ≡ length l.taken) × AreCapped l.widths.items (class_width (all_given l.module l.taken) l.max_len l._level)
