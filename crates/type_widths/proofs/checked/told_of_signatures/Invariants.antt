use Rattle.std.proofs.Common.{ℕ, Option}
use Rattle.spec_types.specs.Widths.{too_wide}
use Rattle.given_types.specs.declared.Signature.{Signature}
use Rattle.given_types.specs.Giving.{signature_in}
use Rattle.told_refusals.proofs.Telling.{ToldTo}
use Rattle.value_types.specs.Widths.{AreCapped}
use Rattle.type_widths.proofs.checked.told_of_signatures.Given as goal

-- what is told behind the functions so far
abbrev pub invariant-loop-signature : goal.invariant-loop-signature
invariant-loop-signature l = (of_class : ℕ → Option ℕ) → AreCapped l.classes of_class → ToldTo (λ (s : Signature). too_wide l.max_len of_class (signature_in l.module s)) l.signatures l.fn.told l.told l.signature-index
