use Rattle.std.proofs.Common.{pos, arith, ap, sym, ◌∙◌}
use Rattle.std.specs.Ordering.{int_eq}
use Rattle.std.proofs.lemmas.List.{length-map, take_rest, drop-map}
use Rattle.bit_gates.specs.Formulas.{value_of}
use Rattle.bit_ints.specs.Integers.{integer, integer_of, values}
use Rattle.bit_ints.proofs.Digits.{below_drop}
use Rattle.bit_ints.proofs.Raising.{short-is}
use Rattle.bit_ints.proofs.shifts.is_short.Goals as goal

pub is_zero-requires-clause-below : goal.is_zero-requires-clause-below
is_zero-requires-clause-below c =
    let high = rw (take_rest c.digits.result.now c.args.count, c.digits.ensures.digits) at c.in_ok-high.ensures in
    rw high (below_drop _ c.args.count c.args.b.now c.requires.below)

pub returns-clause-value : goal.returns-clause-value
returns-clause-value c = λ bits. λ n. λ e.
    let gates = c.args.g.now.gates in
    let high = rw (take_rest c.digits.result.now c.args.count, c.digits.ensures.digits) at c.in_ok-high.ensures in
    let size = length-map c.args.b.now (value_of gates bits) in
    let rest = ap (integer_of gates bits) high ∙ ap integer (sym (drop-map (value_of gates bits) c.args.count c.args.b.now)) in
    c.in_ok-short.ensures.value bits ∙ ap (λ z. int_eq z (pos 0)) rest ∙ short-is c.args.count (values gates bits c.args.b.now) n (omega arith) e
