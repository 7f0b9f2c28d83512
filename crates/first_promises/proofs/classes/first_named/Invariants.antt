use Rattle.std.proofs.Common.{◌≡◌, drop}
use Rattle.spec_first_trees.specs.Classes.{first_named}
use Rattle.first_promises.proofs.classes.first_named.Given as goal

abbrev pub invariant-loop-known : goal.invariant-loop-known
invariant-loop-known l = first_named (λ k. k.0.now) (λ k. k.1) (drop l.known-index l.classes) l.name ≡ first_named (λ k. k.0.now) (λ k. k.1) l.classes l.name
