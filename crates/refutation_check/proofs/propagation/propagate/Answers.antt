use Rattle.std.proofs.Common.{◌≡◌, ◌<◌, ◌++◌, List, sym, ap, subst, ◌∙◌, refl}
use Rattle.refutation_check.specs.declared.lit.SatLit.{SatLit}
use Rattle.refutation_check.specs.declared.propagation.Due.TheVariants as due
use Rattle.refutation_check.specs.Dues.{due_in}
use Rattle.refutation_check.proofs.Closures.{IsReached, reached_first, reached_next, reached_conflict, reached_rest}
use Rattle.refutation_check.proofs.Falling.{open_count, count_falls}
use Rattle.refutation_check.proofs.propagation.propagate.Goals as goal

pub loop-trail-init : goal.loop-trail-init
loop-trail-init c = reached_first (c.args.clauses.now ++ c.args.more.now) c.args.trail.items c.requires

pub returns-in-Nothing : goal.returns-in-Nothing
returns-in-Nothing c =
    let e : due_in c.loop-trail.trail.items (c.args.clauses.now ++ c.args.more.now) ≡ due.Nothing = ap (λ (t : List SatLit). due_in t (c.args.clauses.now ++ c.args.more.now)) (sym c.deref.ensures.value) ∙ sym c.in-Nothing.ensures in
    (λ h. cc, λ h. absurd (reached_rest (c.args.clauses.now ++ c.args.more.now) c.args.trail.items c.loop-trail.trail.items c.loop-trail.invariant e h))

pub returns-in-Conflict : goal.returns-in-Conflict
returns-in-Conflict c =
    let e : due_in c.loop-trail.trail.items (c.args.clauses.now ++ c.args.more.now) ≡ due.Conflict = ap (λ (t : List SatLit). due_in t (c.args.clauses.now ++ c.args.more.now)) (sym c.deref.ensures.value) ∙ sym c.in-Conflict.ensures in
    (λ h. reached_conflict (c.args.clauses.now ++ c.args.more.now) c.args.trail.items c.loop-trail.trail.items c.loop-trail.invariant e, λ h. refl)

pub loop-trail-smaller : goal.loop-trail-smaller
loop-trail-smaller c =
    let e : due_in c.loop-trail.trail.items (c.args.clauses.now ++ c.args.more.now) ≡ due.Forced c.in-Forced.l = ap (λ (t : List SatLit). due_in t (c.args.clauses.now ++ c.args.more.now)) (sym c.deref.ensures.value) ∙ sym c.in-Forced.ensures in
    let f = count_falls c.loop-trail.trail.items (c.args.clauses.now ++ c.args.more.now) c.in-Forced.l e in
    let P : List SatLit → Type 0 = λ t. open_count t (c.args.clauses.now ++ c.args.more.now) < open_count c.loop-trail.trail.items (c.args.clauses.now ++ c.args.more.now) in
    subst P (sym c.in_ok-push-in-Forced.ensures.items) f

pub loop-trail-preserved : goal.loop-trail-preserved
loop-trail-preserved c =
    let e : due_in c.loop-trail.trail.items (c.args.clauses.now ++ c.args.more.now) ≡ due.Forced c.in-Forced.l = ap (λ (t : List SatLit). due_in t (c.args.clauses.now ++ c.args.more.now)) (sym c.deref.ensures.value) ∙ sym c.in-Forced.ensures in
    let f = reached_next (c.args.clauses.now ++ c.args.more.now) c.args.trail.items c.loop-trail.trail.items c.in-Forced.l c.loop-trail.invariant e in
    let P : List SatLit → Type 0 = λ t. IsReached (c.args.clauses.now ++ c.args.more.now) c.args.trail.items t in
    subst P (sym c.in_ok-push-in-Forced.ensures.items) f
