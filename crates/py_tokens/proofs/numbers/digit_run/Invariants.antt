use Rattle.std.proofs.Common.{◌≡◌, ◌+◌, length}
use Rattle.spec_tokens.specs.Cutting.{digit_run}
use Rattle.py_tokens.specs.Steps.{digits_of}
use Rattle.py_tokens.proofs.numbers.digit_run.Given as goal

abbrev pub invariant-loop-letter : goal.invariant-loop-letter
invariant-loop-letter l = record {
  run : digit_run (digits_of l.base) l.letters ≡ l.run + digit_run (digits_of l.base) l.rest;
  place : l.run + length l.rest ≡ length l.letters;
}

abbrev pub decreases-loop-letter : goal.decreases-loop-letter
decreases-loop-letter l = length l.rest
