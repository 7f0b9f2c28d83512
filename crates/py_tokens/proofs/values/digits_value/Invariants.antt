use Rattle.std.proofs.Common.{◌≡◌, ◌<◌, ◌^◌, length}
use Rattle.spec_tokens.specs.Values.{value_onto}
use Rattle.py_tokens.proofs.values.digits_value.Given as goal

abbrev pub invariant-loop-letter : goal.invariant-loop-letter
invariant-loop-letter l = record {
  value : value_onto l.base 0 l.digits ≡ value_onto l.base l.value l.rest;
  small : l.value < 2 ^ 127;
}

abbrev pub decreases-loop-letter : goal.decreases-loop-letter
decreases-loop-letter l = length l.rest
