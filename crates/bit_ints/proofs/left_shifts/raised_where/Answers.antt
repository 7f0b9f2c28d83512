use Rattle.std.proofs.Common.{◌+◌, ◌-◌, length, replicate, arith, ap, ◌∙◌, length-append}
use Rattle.std.proofs.lemmas.List.{length-replicate}
use Rattle.bit_gates.specs.Formulas.{value_of}
use Rattle.bit_ints.specs.Integers.{integer, integer_of, values}
use Rattle.bit_ints.proofs.Digits.{below_extended, below_replicate, extended-length, extended-map}
use Rattle.bit_ints.proofs.Raising.{raised-is, one_of}
use Rattle.bit_ints.proofs.Rows.{below_append}
use Rattle.bit_ints.proofs.Sums.{integer-extended}
use Rattle.bit_ints.proofs.left_shifts.raised_where.Goals as goal

pub chosen-requires-clause-same : goal.chosen-requires-clause-same
chosen-requires-clause-same c =
    let more = length-append (replicate c.args.places c.constant-low.result) c.args.lits.now in
    let low = length-replicate c.args.places c.constant-low.result in
    let kept = extended-length (length c.args.lits.now + c.args.places - length c.args.lits.now) c.args.lits.now c.requires.some in
    omega (arith, ap length c.deref.ensures.value, ap length c.deref-2.ensures.value, ap length c.in_ok-moved.ensures, ap length c.in_ok-kept.ensures)

pub chosen-requires-clause-yes : goal.chosen-requires-clause-yes
chosen-requires-clause-yes c = rw (c.deref.ensures.value, c.in_ok-moved.ensures) (below_append _ _ _ (below_replicate _ c.args.places c.constant-low.result c.constant-low.ensures.below) c.requires.below)

pub chosen-requires-clause-no : goal.chosen-requires-clause-no
chosen-requires-clause-no c = rw (c.deref-2.ensures.value, c.in_ok-kept.ensures) (below_extended _ (length c.args.lits.now + c.args.places - length c.args.lits.now) _ c.requires.below)

pub returns-clause-length : goal.returns-clause-length
returns-clause-length c =
    let kept = extended-length (length c.args.lits.now + c.args.places - length c.args.lits.now) c.args.lits.now c.requires.some in
    omega (arith, c.in_ok-digits.ensures.length, ap length c.deref-2.ensures.value, ap length c.in_ok-kept.ensures)

pub returns-clause-value : goal.returns-clause-value
returns-clause-value c = λ bits.
    let gates = c.args.g.now.gates in
    let k = length c.args.lits.now + c.args.places - length c.args.lits.now in
    let v = rw (c.deref.ensures.value, c.deref-2.ensures.value) at (c.in_ok-digits.ensures.value bits) in
    let moved = ap (integer_of gates bits) c.in_ok-moved.ensures ∙ raised-is gates bits c.args.places c.constant-low.result c.args.lits.now (c.constant-low.ensures.value bits) c.requires.some in
    let kept = ap (integer_of gates bits) c.in_ok-kept.ensures ∙ ap integer (extended-map (value_of gates bits) k c.args.lits.now) ∙ integer-extended k (values gates bits c.args.lits.now) in
    one_of (value_of gates bits c.args.by) (values gates bits c.in_ok-moved.moved.items) (values gates bits c.in_ok-kept.kept.items) _ _ _ v moved kept
