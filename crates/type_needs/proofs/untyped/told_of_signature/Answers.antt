use Rattle.std.proofs.Common.{◌∙◌, sym}
use Rattle.given_types.specs.Giving.{signature_in}
use Rattle.type_needs.specs.Marked.{marked}
use Rattle.type_needs.proofs.Needing.{told_of_needy, told_of_others}
use Rattle.type_needs.proofs.untyped.told_of_signature.Goals as goal

pub returns-then-needs_types : goal.returns-then-needs_types
returns-then-needs_types c = λ m h.
    let told = rw c.deref.ensures.value at c.told_of_types.ensures in
    told_of_needy (marked c.args.marks.now) (signature_in m c.args.signature.now) c.args.told c.told_of_types.result (sym (c.needs_types.ensures m) ∙ c.if-needs_types.true) (told m h)

pub returns-else-needs_types : goal.returns-else-needs_types
returns-else-needs_types c = λ m h. told_of_others (marked c.args.marks.now) (signature_in m c.args.signature.now) c.args.told (sym (c.needs_types.ensures m) ∙ c.if-needs_types.false)
