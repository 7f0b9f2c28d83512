use Rattle.std.proofs.Common.{◌≡◌, ◌++◌, ◌↔◌, List, map, IsTrue, IfOk, false, sym, ap, subst, ◌∙◌, refl, arith}
use Rattle.std.proofs.lemmas.List.{take_all}
use Rattle.refutation_check.specs.declared.lit.SatLit.{SatLit}
use Rattle.refutation_check.specs.Truth.{negated}
use Rattle.refutation_check.specs.Dues.{is_consistent}
use Rattle.refutation_check.specs.Propagation.{IsConflict}
use Rattle.refutation_check.proofs.Closures.{given_clash}
use Rattle.refutation_check.proofs.propagation.refutes.Goals as goal

pub returns-then-not-is_consistent : goal.returns-then-not-is_consistent
returns-then-not-is_consistent c =
    let all : c.loop-l.trail.items ≡ c.args.assumptions.now ++ map negated c.args.clause.now = c.loop-l.invariant ∙ ap (λ (t : List SatLit). c.args.assumptions.now ++ map negated t) (take_all c.loop-l.l-index c.args.clause.now (omega arith)) in
    let f : is_consistent (c.args.assumptions.now ++ map negated c.args.clause.now) ≡ false = ap (λ (t : List SatLit). is_consistent t) (sym all) ∙ ap (λ (t : List SatLit). is_consistent t) (sym c.deref.ensures.value) ∙ sym c.is_consistent.ensures ∙ c.if-not-is_consistent.true in
    (λ h. given_clash (c.args.clauses.now ++ c.args.more.now) (c.args.assumptions.now ++ map negated c.args.clause.now) f, λ h. refl)

pub returns : goal.returns
returns c =
    let all : c.loop-l.trail.items ≡ c.args.assumptions.now ++ map negated c.args.clause.now = c.loop-l.invariant ∙ ap (λ (t : List SatLit). c.args.assumptions.now ++ map negated t) (take_all c.loop-l.l-index c.args.clause.now (omega arith)) in
    let P : List SatLit → Type 0 = λ t. IfOk c.propagate.result (λ yes. IsTrue yes ↔ IsConflict (c.args.clauses.now ++ c.args.more.now) t) in
    subst P all c.propagate.ensures
