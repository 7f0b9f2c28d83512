use Rattle.std.proofs.Common.{◌≡◌, ◌++◌, [], drop, map}
use Rattle.spec_tokens.specs.Tokens.{tokens_from}
use Rattle.py_tokens.proofs.building.tokens.Given as goal

abbrev pub invariant-loop-line : goal.invariant-loop-line
invariant-loop-line l = l.tokens.items ++ tokens_from l.letters l.columns (map (λ line. line.now) (drop l.line-index l.lines)) ≡ tokens_from l.letters [] (map (λ line. line.now) l.lines)
