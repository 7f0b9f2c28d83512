use Rattle.std.proofs.Common.{◌≡◌, ◌-◌, suc, ◌≤◌, length, arith, ◌∙◌}
use Rattle.std.proofs.lemmas.List.{length-map}
use Rattle.bit_gates.specs.Formulas.{value_of}
use Rattle.bit_ints.specs.Integers.{values}
use Rattle.bit_ints.proofs.Orders.{sign-lt, sign_at, below_get}
use Rattle.bit_ints.proofs.signs.is_negative.Goals as goal

pub returns-clause-below : goal.returns-clause-below
returns-clause-below c = below_get _ _ _ _ c.requires c.lit.ensures

pub returns-clause-value : goal.returns-clause-value
returns-clause-value c = λ bits.
    let gates = c.args.g.now.gates in
    let size : length c.args.n.now ≡ suc (c.len.result - 1) = omega (arith, c.len.ensures.digits, c.len.ensures.some) in
    let some : 1 ≤ length (values gates bits c.args.n.now) = omega (arith, length-map c.args.n.now (value_of gates bits)) in
    sign_at gates bits c.args.n.now (c.len.result - 1) c.lit.result c.lit.ensures size ∙ sign-lt (values gates bits c.args.n.now) some
