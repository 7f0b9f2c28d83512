use Rattle.std.proofs.Common.{◌≡◌, Bool, List, [], vec_len, sym, subst, ◌∙◌}
use Rattle.std.proofs.lemmas.Bool.{eqb-true}
use Rattle.refutation_check.specs.declared.lit.SatLit.{SatLit}
use Rattle.refutation_check.specs.Refutations.{EachFollows}
use Rattle.sat_core.specs.Learning.{IsConfirmed, IsAppended}
use Rattle.sat_core.proofs.Lessons.{appended_sound, appended_refutes, empty_from}
use Rattle.sat_core.proofs.learning.learn_with.Goals as goal

pub returns-then-not-branch : goal.returns-then-not-branch
returns-then-not-branch c =
    let B : Bool → Type 0 = λ b. IsConfirmed c.args.clauses.now c.loop.known c.loop.refutation c.confirm.new.refutation c.deref-in-loop-2.result.now b in
    let kept : c.confirm.new.refutation ≡ c.loop.refutation = subst B c.if-not-branch.true c.in_ok-confirm.ensures.confirmed in
    let E : List (List SatLit) → Type 0 = λ r. EachFollows c.args.clauses.now c.args.assumptions.now r in
    subst E (sym kept) c.loop.invariant.each_follows

pub returns-then-is_empty : goal.returns-then-is_empty
returns-then-is_empty c =
    let B : Bool → Type 0 = λ b. IsConfirmed c.args.clauses.now c.loop.known c.loop.refutation c.confirm.new.refutation c.deref-in-loop-2.result.now b in
    let appended : IsAppended c.args.clauses.now c.loop.known c.loop.refutation c.confirm.new.refutation c.deref-in-loop-2.result.now = subst B c.if-not-branch.false c.in_ok-confirm.ensures.confirmed in
    let zero : vec_len c.in_ok-clause.clause ≡ 0 = eqb-true (vec_len c.in_ok-clause.clause) 0 (sym c.is_empty.ensures ∙ c.if-is_empty.true) in
    let none : c.deref-in-loop-2.result.now ≡ [] = empty_from c.deref-in-loop-2.result.now (c.deref-in-loop-2.ensures.len ∙ zero) in
    appended_refutes c.args.clauses.now c.args.assumptions.now c.loop.known c.confirm.new.known c.loop.refutation c.confirm.new.refutation c.deref-in-loop-2.result.now c.loop.invariant appended none

pub loop-preserved : goal.loop-preserved
loop-preserved c =
    let B : Bool → Type 0 = λ b. IsConfirmed c.args.clauses.now c.loop.known c.loop.refutation c.confirm.new.refutation c.deref-in-loop-2.result.now b in
    let appended : IsAppended c.args.clauses.now c.loop.known c.loop.refutation c.confirm.new.refutation c.deref-in-loop-2.result.now = subst B c.if-not-branch.false c.in_ok-confirm.ensures.confirmed in
    appended_sound c.args.clauses.now c.args.assumptions.now c.loop.known c.confirm.new.known c.loop.refutation c.confirm.new.refutation c.deref-in-loop-2.result.now c.loop.invariant c.in_ok-confirm.ensures.known appended
