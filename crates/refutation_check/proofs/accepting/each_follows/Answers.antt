use Rattle.std.proofs.Common.{◌≡◌, ◌++◌, ◌<◌, ℕ, List, Some, take, sym, ap, subst, ◌∙◌, refl, arith, length, slice_get, below_more}
use Rattle.std.proofs.lemmas.Bool.{both_ways}
use Rattle.std.proofs.lemmas.Option.{slice_get-get_or, get_or_from_slice_get, slice_get_within}
use Rattle.refutation_check.specs.declared.lit.SatLit.{SatLit}
use Rattle.refutation_check.specs.Propagation.{is_given}
use Rattle.refutation_check.specs.Refutations.{Follows}
use Rattle.refutation_check.proofs.Cuts.{forced_later}
use Rattle.refutation_check.proofs.accepting.each_follows.Goals as goal

pub loop-i-init : goal.loop-i-init
loop-i-init c = record { steps_follow = λ k d lt e. absurd (omega arith); known_forced = λ l t. is_given l (c.requires l t) }

pub returns-then-not-branch : goal.returns-then-not-branch
returns-then-not-branch c =
    let step : List SatLit = c.index-steps-i.result in
    let here : slice_get c.args.steps.now c.loop-i.i ≡ Some step = slice_get-get_or c.args.steps.now c.loop-i.i step (omega arith) ∙ ap (λ (x : List SatLit). Some x) (sym c.index-steps-i.is) in
    let P : List SatLit → Type 0 = λ x. Follows (c.args.clauses.now ++ take c.loop-i.i c.args.steps.now) c.args.assumptions.now x in
    (λ h. cc, λ h. absurd (both_ways c.in_ok-follows.field-0 c.if-not-branch.true (c.in_ok-follows.ensures.exact.1 (subst P (sym c.as_slice.ensures) (h c.loop-i.i step here)))))

pub loop-i-preserved : goal.loop-i-preserved
loop-i-preserved c =
    let step : List SatLit = c.index-steps-i.result in
    let P : List SatLit → Type 0 = λ x. Follows (c.args.clauses.now ++ take c.loop-i.i c.args.steps.now) c.args.assumptions.now x in
    let Q : ℕ → Type 0 = λ k. (d : List SatLit) → slice_get c.args.steps.now k ≡ Some d → Follows (c.args.clauses.now ++ take k c.args.steps.now) c.args.assumptions.now d in
    let here : Q c.loop-i.i = λ d e. subst P (c.as_slice.ensures ∙ c.index-steps-i.is ∙ get_or_from_slice_get c.args.steps.now c.loop-i.i d step e) (c.in_ok-follows.ensures.exact.0 c.if-not-branch.false) in
    record {
      steps_follow = λ k d lt e. below_more Q c.loop-i.i (λ j h f s. c.loop-i.invariant.steps_follow j f h s) here k lt d e;
      known_forced = λ l t. forced_later c.args.clauses.now c.args.steps.now c.args.assumptions.now c.loop-i.i l (c.follows.ensures.known l t);
    }

pub returns : goal.returns
returns c = (λ h k d e. let w : k < length c.args.steps.now = slice_get_within c.args.steps.now k d e in c.loop-i.invariant.steps_follow k d (omega arith) e, λ h. refl)
