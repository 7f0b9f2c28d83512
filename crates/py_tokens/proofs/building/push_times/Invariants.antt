use Rattle.std.proofs.Common.{◌≡◌, ◌++◌, ◌-◌, []}
use Rattle.spec_tokens.specs.Tokens.{times}
use Rattle.py_tokens.proofs.building.push_times.Given as goal

abbrev pub invariant-loop : goal.invariant-loop
invariant-loop l = l.tokens.items ++ times (l.count - l.counter) l.token [] ≡ l.initial.tokens.items ++ times l.count l.token []
