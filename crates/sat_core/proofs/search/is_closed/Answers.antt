use Rattle.std.proofs.Common.{◌++◌, ◌↔◌, List, IsTrue, IfOk, ap, subst, ◌∙◌}
use Rattle.refutation_check.specs.declared.lit.SatLit.{SatLit}
use Rattle.refutation_check.specs.Propagation.{IsConflict}
use Rattle.sat_core.proofs.search.is_closed.Goals as goal

pub returns : goal.returns
returns c =
    let P : List SatLit → Type 0 = λ g. IfOk c.meets_conflict.result (λ yes. IsTrue yes ↔ IsConflict c.args.clauses.now g) in
    subst P (c.deref.ensures.value ∙ c.in_ok-extend_from_slice.ensures.items ∙ ap (λ (g : List SatLit). g ++ c.args.splits.now) c.in_ok-given.ensures.items) c.meets_conflict.ensures
