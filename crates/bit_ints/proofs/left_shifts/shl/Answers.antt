use Rattle.std.proofs.Common.{◌≡◌, ◌-◌, min, length, lit<, arith, ap, sym, ◌∙◌}
use Rattle.std.proofs.lemmas.List.{length-map}
use Rattle.bit_gates.specs.Formulas.{value_of}
use Rattle.bit_gates.proofs.Arenas.{value_kept}
use Rattle.bit_ints.specs.Integers.{integer, integer_of, values}
use Rattle.bit_ints.proofs.Digits.{below_later, below_take, grown_length, grown_more, values_kept}
use Rattle.bit_ints.proofs.Narrowing.{narrowed-is}
use Rattle.bit_ints.proofs.Raising.{far_or_short, shift_fits, shift_is}
use Rattle.bit_ints.proofs.left_shifts.shl.Goals as goal

pub is_zero_or_short-requires-clause-left : goal.is_zero_or_short-requires-clause-left
is_zero_or_short-requires-clause-left c = below_later _ _ _ c.requires.left (grown_length _ _ (grown_more _ _ _ c.in_ok-wide.ensures.grown c.in_ok-within.ensures.grown))

pub is_zero_or_short-requires-clause-right : goal.is_zero_or_short-requires-clause-right
is_zero_or_short-requires-clause-right c = below_later _ _ _ c.requires.right (grown_length _ _ (grown_more _ _ _ c.in_ok-wide.ensures.grown c.in_ok-within.ensures.grown))

pub returns-clause-below : goal.returns-clause-below
returns-clause-below c =
    let grown = grown_more _ _ _ c.in_ok-within.ensures.grown (grown_more _ _ _ c.in_ok-whole.ensures.grown c.in_ok-fits.ensures.grown) in
    (rw c.in_ok-shifted.ensures (below_take _ c.min.result _ (below_later _ _ _ c.in_ok-wide.ensures.below (grown_length _ _ grown))), c.in_ok-fits.ensures.below)

pub returns-clause-fits : goal.returns-clause-fits
returns-clause-fits c = λ bits. λ n. λ e.
    let gates = c.args.g.now.gates in
    let early = grown_more _ _ _ c.in_ok-wide.ensures.grown c.in_ok-within.ensures.grown in
    let a = values_kept _ _ bits c.args.a.now early c.requires.left in
    let b = values_kept _ _ bits c.args.b.now early c.requires.right in
    let within = value_kept _ _ bits c.in_ok-within.within c.in_ok-whole.ensures.grown c.in_ok-within.ensures.below in
    let whole = rw a at (c.in_ok-whole.ensures.value bits n (ap integer b ∙ e)) in
    let size = length-map c.args.b.now (value_of gates bits) in
    let count : c.min-count.result ≡ min 7 (length (values gates bits c.args.b.now) - 1) = omega (arith, c.min-count.ensures, c.len.ensures.digits) in
    let far = far_or_short 127 c.min-count.result n (values gates bits c.args.b.now) e (omega (arith, c.len.ensures.digits, c.len.ensures.some)) count (lit< tt) in
    rw (c.in_ok-fits.ensures.value bits, within, c.in_ok-within.ensures.value bits, whole) (shift_fits 127 c.min-count.result n (integer_of gates bits c.args.a.now) (integer_of c.raised.new.g.gates bits c.in_ok-wide.wide) far (c.in_ok-wide.ensures.value bits n e) (c.in_ok-wide.ensures.none bits))

pub returns-clause-value : goal.returns-clause-value
returns-clause-value c = λ bits. λ n. λ e. λ h.
    let gates = c.args.g.now.gates in
    let early = grown_more _ _ _ c.in_ok-wide.ensures.grown c.in_ok-within.ensures.grown in
    let later = grown_more _ _ _ c.in_ok-within.ensures.grown (grown_more _ _ _ c.in_ok-whole.ensures.grown c.in_ok-fits.ensures.grown) in
    let a = values_kept _ _ bits c.args.a.now early c.requires.left in
    let b = values_kept _ _ bits c.args.b.now early c.requires.right in
    let within = value_kept _ _ bits c.in_ok-within.within c.in_ok-whole.ensures.grown c.in_ok-within.ensures.below in
    let whole = rw a at (c.in_ok-whole.ensures.value bits n (ap integer b ∙ e)) in
    let fits = rw (within, c.in_ok-within.ensures.value bits, whole) at (sym (c.in_ok-fits.ensures.value bits) ∙ h) in
    let parts = shift_is 127 c.min-count.result n (integer_of gates bits c.args.a.now) (integer_of c.raised.new.g.gates bits c.in_ok-wide.wide) (c.in_ok-wide.ensures.value bits n e) (c.in_ok-wide.ensures.none bits) fits in
    let size : c.min.result ≡ min (length c.in_ok-wide.wide) 128 = omega (arith, c.min.ensures, c.len-2.ensures.digits) in
    narrowed-is c.raised.new.g.gates c.and.new.self.gates bits 127 c.min.result c.in_ok-wide.wide c.in_ok-shifted.shifted later c.in_ok-wide.ensures.below (omega (arith, c.len-2.ensures.digits, c.len-2.ensures.some)) c.in_ok-shifted.ensures size parts.0 ∙ parts.1
