use Rattle.std.proofs.Common.{◌&&◌, length, arith, ap, ◌∙◌}
use Rattle.std.proofs.lemmas.List.{length-map}
use Rattle.bit_gates.specs.Formulas.{value_of}
use Rattle.bit_ints.specs.Integers.{integer, values, bitwise}
use Rattle.bit_ints.proofs.Rows.{bitwise-mask}
use Rattle.bit_ints.proofs.products.masked.Goals as goal

pub returns-clause-width : goal.returns-clause-width
returns-clause-width c = omega (arith, c.in_ok-row.ensures.width, ap length c.in_ok-mask.ensures)

pub returns-clause-value : goal.returns-clause-value
returns-clause-value c = λ bits.
    let size = length-map c.args.a.now (value_of c.args.g.now.gates bits) in
    ap integer (c.in_ok-row.ensures.value bits) ∙ ap (λ ls. integer (bitwise ◌&&◌ (values c.args.g.now.gates bits c.args.a.now) (values c.args.g.now.gates bits ls))) c.in_ok-mask.ensures ∙ bitwise-mask (value_of c.args.g.now.gates bits c.args.by) (values c.args.g.now.gates bits c.args.a.now) (omega arith)
