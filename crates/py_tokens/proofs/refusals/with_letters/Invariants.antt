use Rattle.std.proofs.Common.{◌≡◌, ◌+◌, ◌≤◌, length}
use Rattle.spec_tokens.specs.Refusals.{earlier, first_of, letter_refusals}
use Rattle.py_tokens.proofs.refusals.with_letters.Given as goal

abbrev pub invariant-loop-letter : goal.invariant-loop-letter
invariant-loop-letter l = record {
  told : earlier l.told (first_of (letter_refusals l.line l.rest)) ≡ earlier l.fn.first (first_of (letter_refusals 1 l.letters));
  line : l.line + length l.rest ≤ length l.letters + 1;
}

abbrev pub decreases-loop-letter : goal.decreases-loop-letter
decreases-loop-letter l = length l.rest
