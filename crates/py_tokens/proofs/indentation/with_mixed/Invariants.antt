use Rattle.std.proofs.Common.{◌≡◌, None, drop, map}
use Rattle.spec_tokens.specs.Refusals.{earlier, first_of}
use Rattle.spec_tokens.specs.Lines.{mixed_refusals}
use Rattle.py_tokens.proofs.indentation.with_mixed.Given as goal

abbrev pub invariant-loop-line : goal.invariant-loop-line
invariant-loop-line l = earlier l.told (first_of (mixed_refusals l.letters l.unit (map (λ line. line.now) (drop l.line-index l.lines)))) ≡ earlier l.fn.first (first_of (mixed_refusals l.letters None (map (λ line. line.now) l.lines)))
