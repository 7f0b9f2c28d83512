use Rattle.std.proofs.Common.{◌≡◌, ◌∙◌, ℕ, ap, length, sym, subst}
use Rattle.given_types.specs.Giving.{AreSignatures}
use Rattle.type_needs.proofs.tests.told.Goals as goal

pub told_of_needs-requires-clause-signatures : goal.told_of_needs-requires-clause-signatures
told_of_needs-requires-clause-signatures c =
    let m = c.args.module.now in
    let size : length c.deref-2.result.now ≡ 2 = ap length c.deref-2.ensures.value ∙ c.in_ok-taken.ensures.size in
    let there : AreSignatures m 2 c.deref.result.now = rw c.deref.ensures.value (c.in_ok-signatures.ensures m c.requires.given c.requires.first c.requires.second) in
    subst (λ (n : ℕ). AreSignatures m n c.deref.result.now) (sym size) there

pub told_of_needs-requires-clause-taken : goal.told_of_needs-requires-clause-taken
told_of_needs-requires-clause-taken c = rw c.deref-2.ensures.value (c.in_ok-taken.ensures.given c.args.module.now c.requires.first c.requires.second)
