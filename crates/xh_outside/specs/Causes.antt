-- Faults are counted: an answer that tells of one comes only where the count of its object rose.
use Rattle.std.specs.Prelude.{ℕ, ◌+◌, ◌-◌, ◌^◌, ◌≤◌, ◌≡◌, min, OnErr, IsErrOf, Result}
use Rattle.xh_outside.specs.declared.errors.ReadError.{ReadError}
use Rattle.xh_outside.specs.declared.errors.ReadError.TheVariants as read_error

-- the count rose, or stands at the greatest value of its counter, a u64
abbrev pub Rose : ℕ → ℕ → Type 0
Rose before now = min (before + 1) (2 ^ 64 - 1) ≤ now

-- the count of a sink never falls, and an error comes only where it rose
pub record HasCause {T E : Type 0} (before now : ℕ) (result : Result T E) : Type 0 where
  pub later : before ≤ now
  pub failed : OnErr result (Rose before now)

-- the count of files never falls, a read fails only where it rose, and a want of memory leaves it
pub record HasReadCause {T : Type 0} (before now : ℕ) (result : Result T ReadError) : Type 0 where
  pub later : before ≤ now
  pub failed : IsErrOf result read_error.Failed → Rose before now
  pub no_memory : IsErrOf result read_error.NoMemory → now ≡ before
