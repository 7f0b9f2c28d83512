use Rattle.std.proofs.Common.{◌≡◌, ◌-◌, ◌↔◌, [], List, Some, IsTrue, IfOk, subst, length, slice_get}
use Rattle.refutation_check.specs.declared.lit.SatLit.{SatLit}
use Rattle.refutation_check.specs.Refutations.{EachFollows}
use Rattle.refutation_check.proofs.Models.{accepted_from, refuted_from}
use Rattle.refutation_check.proofs.accepting.accepts.Goals as goal

pub returns-clause-accepted : goal.returns-clause-accepted
returns-clause-accepted c =
    let P : List (List SatLit) → Type 0 = λ r. slice_get r (length r - 1) ≡ Some [] in
    let K : List (List SatLit) → Type 0 = λ k. IfOk c.all_follow.result (λ yes. IsTrue yes ↔ EachFollows k c.args.assumptions.now c.as_slice-steps.result.now) in
    let R : List (List SatLit) → Type 0 = λ r. IfOk c.all_follow.result (λ yes. IsTrue yes ↔ EachFollows c.args.clauses.now c.args.assumptions.now r) in
    let last = subst P c.as_slice-steps.ensures (c.ends_empty.ensures.0 c.if-not-ends_empty.false) in
    accepted_from c.all_follow.result c.args.clauses.now c.args.assumptions.now c.args.refutation.now last (subst R c.as_slice-steps.ensures (subst K c.as_slice.ensures c.all_follow.ensures))

pub returns-clause-refuted : goal.returns-clause-refuted
returns-clause-refuted c = refuted_from c.all_follow.result c.args.clauses.now c.args.assumptions.now c.args.refutation.now (returns-clause-accepted c)
