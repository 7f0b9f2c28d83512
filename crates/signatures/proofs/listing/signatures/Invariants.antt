use Rattle.std.proofs.Common.{ℕ}
use Rattle.std.specs.List.{All}
use Rattle.given_types.specs.Giving.{AreSignatures, IsClassBelow}
use Rattle.module_functions.specs.declared.function.Function.{Function}
use Rattle.signatures.proofs.Listed.{AreListedTo}
use Rattle.signatures.proofs.listing.signatures.Given as goal

abbrev pub invariant-loop-i : goal.invariant-loop-i
invariant-loop-i l = AreListedTo l.module l.checked l.functions l.signatures.items l.i × ((n : ℕ) → All (λ (f : Function). IsClassBelow n f.class) l.functions → AreSignatures l.module n l.signatures.items)
