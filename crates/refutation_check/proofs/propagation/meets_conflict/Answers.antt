use Rattle.std.proofs.Common.{◌++◌, ◌↔◌, [], List, IsTrue, IfOk, subst, ◌∙◌}
use Rattle.std.proofs.lemmas.List.{append-nil}
use Rattle.refutation_check.specs.declared.lit.SatLit.{SatLit}
use Rattle.refutation_check.specs.Propagation.{IsConflict}
use Rattle.refutation_check.proofs.propagation.meets_conflict.Goals as goal

pub returns : goal.returns
returns c =
    let P : List (List SatLit) → Type 0 = λ t. IfOk c.refutes.result (λ yes. IsTrue yes ↔ IsConflict t c.args.lits.now) in
    let Q : List SatLit → Type 0 = λ t. IfOk c.refutes.result (λ yes. IsTrue yes ↔ IsConflict (c.as_slice.result.now ++ []) t) in
    let q = subst Q (append-nil c.args.lits.now) c.refutes.ensures in
    subst P (append-nil c.as_slice.result.now ∙ c.as_slice.ensures) q
