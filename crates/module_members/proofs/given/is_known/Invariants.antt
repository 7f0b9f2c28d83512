use Rattle.std.proofs.Common.{◌≡◌, drop}
use Rattle.std.specs.List.{list_any}
use Rattle.std.specs.Str.{bytes_eq}
use Rattle.module_members.proofs.given.is_known.Given as goal

abbrev pub invariant-loop-known : goal.invariant-loop-known
invariant-loop-known l = list_any (λ k. bytes_eq k.0.now l.name) (drop l.known-index l.functions) ≡ list_any (λ k. bytes_eq k.0.now l.name) l.functions
