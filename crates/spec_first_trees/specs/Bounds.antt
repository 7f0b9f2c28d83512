-- The six bounds under which calls are listed and run.
use Rattle.std.specs.Prelude.{ℕ}

pub record Bounds : Type 0 where
  -- an integer input of n bits lies from -2^(n-1) to 2^(n-1) - 1
  pub int_bits : ℕ
  -- the greatest length of an input string, list or dict
  pub max_len : ℕ
  -- an input character has a code point below 2^n
  pub char_bits : ℕ
  -- a constructor call of an input stands inside at most so many others
  pub max_nest : ℕ
  -- the steps of one activity
  pub max_steps : ℕ
  -- the nested calls, and the nested comparisons
  pub max_depth : ℕ

-- the bounds where no option changes them
abbrev pub standard : Bounds
standard = record { int_bits = 8; max_len = 3; char_bits = 7; max_nest = 2; max_steps = 2000; max_depth = 20 }
