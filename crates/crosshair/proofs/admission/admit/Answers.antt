use Rattle.std.proofs.Common.{◌==◌, ℕ, suc, take, ap, sym, ◌∙◌}
use Rattle.std.specs.Prelude.{codes}
use Rattle.std.specs.List.{count_by}
use Rattle.spec_admission.specs.Admission.{refused}
use Rattle.first_tree.specs.BoundsOf.{bounds_of}
use Rattle.crosshair.proofs.Admitting.{admitted_text, not_utf8}
use Rattle.crosshair.proofs.admission.admit.Goals as goal

pub returns-in-Ok : goal.returns-in-Ok
returns-in-Ok c = rw (admitted_text (bounds_of c.args.bounds.now) c.args.content.now c.in-Ok.ensures.cases.1) (rw c.in-Ok.ensures.cases.0 at c.admit_text.ensures)

pub returns-in-Err : goal.returns-in-Err
returns-in-Err c =
    let place = c.valid_up_to.ensures ∙ c.in-Err.ensures.valid_len in
    let line = c.line_at-line.ensures ∙ ap (λ (k : ℕ). suc (count_by (λ b. b == 10) (take k c.args.content.now))) place in
    not_utf8 (bounds_of c.args.bounds.now) c.args.content.now c.in-Err.ensures.cases.0 ∙ ap (λ (n : ℕ). refused n (codes "NotUtf8")) (sym line)
