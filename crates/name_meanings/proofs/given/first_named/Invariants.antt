use Rattle.std.proofs.Common.{◌≡◌, drop}
use Rattle.spec_uses.specs.Meanings.{first_named}
use Rattle.name_meanings.proofs.given.first_named.Given as goal

abbrev pub invariant-loop-known : goal.invariant-loop-known
invariant-loop-known l = first_named (λ k. k.0.now) (λ k. k.1) (drop l.known-index l.functions) l.name ≡ first_named (λ k. k.0.now) (λ k. k.1) l.functions l.name
