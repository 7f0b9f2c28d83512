use Rattle.std.proofs.Common.{length, arith, ap, ◌∙◌}
use Rattle.std.proofs.lemmas.List.{length-map, take_rest, drop-map}
use Rattle.bit_gates.specs.Formulas.{value_of}
use Rattle.bit_ints.specs.Integers.{values}
use Rattle.bit_ints.proofs.Digits.{below_drop}
use Rattle.bit_ints.proofs.Equals.{fits-is, fits-short}
use Rattle.bit_ints.proofs.ops.fits128.Goals as goal

pub returns-then-digits-lt128-clause-value : goal.returns-then-digits-lt128-clause-value
returns-then-digits-lt128-clause-value c = λ bits.
    let size = length-map c.args.a.now (value_of c.args.g.now.gates bits) in
    let is = c.digits-digits.ensures.digits in
    let same_size = ap length is in
    c.constant.ensures.value bits ∙ fits-short 127 (values c.args.g.now.gates bits c.args.a.now) (omega (arith, c.digits-digits.ensures.some)) (omega arith)

pub same-requires-clause-left : goal.same-requires-clause-left
same-requires-clause-left c =
    rw (take_rest c.digits-digits.result.now 127, c.digits-digits.ensures.digits) (below_drop (length c.args.g.now.gates) 127 c.args.a.now c.requires)

pub same-requires-clause-right : goal.same-requires-clause-right
same-requires-clause-right c =
    rw (take_rest c.digits-digits.result.now 128, c.digits-digits.ensures.digits) (below_drop (length c.args.g.now.gates) 128 c.args.a.now c.requires)

pub returns-clause-value : goal.returns-clause-value
returns-clause-value c = λ bits.
    let size = length-map c.args.a.now (value_of c.args.g.now.gates bits) in
    let v = rw (take_rest c.digits-digits.result.now 127, take_rest c.digits-digits.result.now 128, c.digits-digits.ensures.digits, ← drop-map (value_of c.args.g.now.gates bits) 127 c.args.a.now, ← drop-map (value_of c.args.g.now.gates bits) 128 c.args.a.now) at (c.in_ok-fits.ensures.value bits) in
    v ∙ fits-is 127 (values c.args.g.now.gates bits c.args.a.now) (omega (arith, c.digits-digits.ensures.some))
