use Rattle.std.proofs.Common.{◌≡◌, [], drop, map}
use Rattle.spec_tokens.specs.Refusals.{earlier, first_of}
use Rattle.spec_tokens.specs.Lines.{dedent_refusals}
use Rattle.py_tokens.proofs.indentation.with_dedents.Given as goal

abbrev pub invariant-loop-line : goal.invariant-loop-line
invariant-loop-line l = earlier l.told (first_of (dedent_refusals l.letters l.columns (map (λ line. line.now) (drop l.line-index l.lines)))) ≡ earlier l.fn.first (first_of (dedent_refusals l.letters [] (map (λ line. line.now) l.lines)))
