-- Files and a sink in memory, as contracts see them.
use Rattle.std.specs.Prelude.{ℕ, ◌+◌, ◌-◌, ◌^◌, min, Bool, ◌||◌, ◌==◌, if◌then◌else◌, List, ◌++◌, length, take, Option, Result, Ok, Err}
use Rattle.xh_outside.specs.Reading.{is_due, next_left}
use Rattle.xh_outside.specs.declared.errors.Failed.{Failed}
use Rattle.xh_outside.specs.declared.errors.ReadError.{ReadError}
use Rattle.xh_outside.specs.declared.errors.ReadError.TheVariants as read_error

-- what files in memory hold
pub record FilesState : Type 0 where
  -- each name with its content, the newest first
  pub contents : List (List ℕ × List ℕ)
  -- the number of reads before the one that is made to fail
  pub left : Option ℕ
  -- how often a read has failed
  pub faults : ℕ

-- a read counts down to the one that is made to fail, and a failure is counted; a want of memory changes nothing
abbrev pub after_read : FilesState → Result (List ℕ) ReadError → FilesState
after_read s (Ok content) = record s { left = next_left s.left }
after_read s (Err read_error.Failed) = record s { left = next_left s.left; faults = min (s.faults + 1) (2 ^ 64 - 1) }
after_read s (Err read_error.TooLong) = record s { left = next_left s.left }
after_read s (Err read_error.NoMemory) = s

-- what a sink in memory holds
pub record SinkState : Type 0 where
  -- the bytes written, the oldest first
  pub written : List ℕ
  -- the number of bytes that can be written in all
  pub room : ℕ
  -- the number of writes before the one that is made to fail
  pub due : Option ℕ
  -- how often a write has failed
  pub faults : ℕ

-- how many bytes of a piece find room
abbrev pub fitting : SinkState → List ℕ → ℕ
fitting s piece = min (length piece) (s.room - length s.written)

-- a write of a piece that is not empty fails where it is due, or where there is no room
abbrev pub write_fails : SinkState → List ℕ → Bool
write_fails s piece = is_due s.due || fitting s piece == 0

-- a write answers how many bytes fit, and an empty piece is always taken
abbrev pub write_answer : SinkState → List ℕ → Result ℕ Failed
write_answer s piece = if length piece == 0 then Ok 0 else (if write_fails s piece then Err (record {}) else Ok (fitting s piece))

-- a write appends what fits or counts a failure, and counts down to the one that is made to fail; an empty piece changes nothing
abbrev pub after_write : SinkState → List ℕ → SinkState
after_write s piece =
    if length piece == 0 then s else (if write_fails s piece then record s { due = next_left s.due; faults = min (s.faults + 1) (2 ^ 64 - 1) } else record s { due = next_left s.due; written = s.written ++ take (fitting s piece) piece })
