use Rattle.std.proofs.Common.{arith, ap, ◌∙◌}
use Rattle.std.proofs.lemmas.List.{length-map}
use Rattle.bit_gates.specs.Formulas.{value_of}
use Rattle.bit_ints.specs.Integers.{integer, values, bitwise, xor}
use Rattle.bit_ints.proofs.Flips.{flipped-is}
use Rattle.bit_ints.proofs.signs.flipped_where.Goals as goal

pub returns-clause-value : goal.returns-clause-value
returns-clause-value c = λ bits.
    let gates = c.args.g.now.gates in
    let size = length-map c.args.n.now (value_of gates bits) in
    ap integer (c.in_ok-flipped.ensures.value bits) ∙ ap (λ ls. integer (bitwise xor (values gates bits c.args.n.now) (values gates bits ls))) c.in_ok-mask.ensures ∙ flipped-is (value_of gates bits c.args.by) (values gates bits c.args.n.now) (omega (arith, c.in_ok-flipped.ensures.some))
