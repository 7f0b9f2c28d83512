use Rattle.std.proofs.Common.{◌≡◌, ◌≤◌, ◌++◌, length, map}
use Rattle.spec_tokens.specs.Letters.{lines_of, run, is_blank}
use Rattle.py_tokens.proofs.letters.indents.Given as goal

abbrev pub invariant-loop-rest : goal.invariant-loop-rest
invariant-loop-rest l = record {
  told : l.indents.items ++ map (run is_blank) (lines_of l.rest) ≡ map (run is_blank) (lines_of l.letters);
  within : length l.rest ≤ length l.letters;
}

abbrev pub decreases-loop-rest : goal.decreases-loop-rest
decreases-loop-rest l = length l.rest
