use Rattle.std.proofs.Common.{◌≡◌, sym, ap, ◌∙◌, inl, inr}
use Rattle.std.proofs.lemmas.Bool.{eqb-true}
use Rattle.refutation_check.specs.declared.lit.SatLit.{SatLit}
use Rattle.refutation_check.specs.declared.slots.Slot.TheVariants as slot
use Rattle.refutation_check.proofs.Literals.{lit_told}
use Rattle.refutation_check.proofs.Places.{slot_there}
use Rattle.refutation_check.proofs.slots.Slots.has.Goals as goal

pub returns-in-Some-Kept : goal.returns-in-Some-Kept
returns-in-Some-Kept c = λ h.
    let e : c.in-Some-Kept.k ≡ c.args.l = lit_told c.in-Some-Kept.k c.args.l (sym c.eq.ensures ∙ h) in
    let at = c.in-Some-Kept.ensures.lookup in
    inl (slot_there c.args.self.now.slots.items c.deref.result.now c.args.place c.in-Some-Kept.field-0.now (slot.Kept c.args.l) c.deref.ensures.value at.0 at.1 (c.in-Some-Kept.field-0-is ∙ ap (λ (k : SatLit). slot.Kept k) e))

pub returns-then-eq : goal.returns-then-eq
returns-then-eq c = λ h.
    let e : c.in-Some-Noted.k ≡ c.args.l = lit_told c.in-Some-Noted.k c.args.l (sym c.eq-in-Some-Noted.ensures ∙ c.if-eq.true) in
    let r : c.in-Some-Noted.round ≡ c.args.self.now.round = eqb-true c.in-Some-Noted.round c.args.self.now.round h in
    let at = c.in-Some-Noted.ensures.lookup in
    let s : slot.Noted c.in-Some-Noted.k c.in-Some-Noted.round ≡ slot.Noted c.args.l c.args.self.now.round = λ j. slot.Noted (e j) (r j) in
    inr (slot_there c.args.self.now.slots.items c.deref.result.now c.args.place c.in-Some-Noted.field-0.now (slot.Noted c.args.l c.args.self.now.round) c.deref.ensures.value at.0 at.1 (c.in-Some-Noted.field-0-is ∙ s))
