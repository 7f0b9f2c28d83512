use Rattle.std.proofs.Common.{◌≡◌, ◌+◌, ◌-◌, ◌≤◌, max, length, int_lt, pos, arith, ap, ◌∙◌}
use Rattle.bit_gates.specs.Formulas.{value_of}
use Rattle.std.proofs.lemmas.List.{length-map}
use Rattle.bit_ints.specs.Integers.{values, extended_by, sum_bits}
use Rattle.bit_ints.proofs.Orders.{sign-lt}
use Rattle.bit_ints.proofs.Steps.{sum_some}
use Rattle.bit_ints.proofs.Digits.{below_extended}
use Rattle.bit_ints.proofs.Widths.{length-widened, carried_sum}
use Rattle.bit_ints.proofs.ops.sum_is_negative.Goals as goal

pub sum_sign-requires-clause-same : goal.sum_sign-requires-clause-same
sum_sign-requires-clause-same c =
    let n : c.max-n.result ≡ max (length c.args.a.now) (length c.args.b.now) = omega (arith, c.max-n.ensures, c.len.ensures.digits, c.len-2.ensures.digits) in
    let some_a : 1 ≤ length c.args.a.now = omega (arith, c.len.ensures.digits, c.len.ensures.some) in
    let some_b : 1 ≤ length c.args.b.now = omega (arith, c.len-2.ensures.digits, c.len-2.ensures.some) in
    let x : c.in_ok-xs.xs.items ≡ extended_by (c.max-n.result + 1 - length c.args.a.now) c.args.a.now = rw c.digits.ensures.digits at c.in_ok-xs.ensures in
    let y : c.in_ok-ys.ys.items ≡ extended_by (c.max-n.result + 1 - length c.args.b.now) c.args.b.now = rw c.digits-2.ensures.digits at c.in_ok-ys.ensures in
    let size : length c.in_ok-xs.xs.items ≡ c.max-n.result + 1 = length-widened (c.max-n.result + 1) c.args.a.now c.in_ok-xs.xs.items x some_a (omega arith) in
    let size_y : length c.in_ok-ys.ys.items ≡ c.max-n.result + 1 = length-widened (c.max-n.result + 1) c.args.b.now c.in_ok-ys.ys.items y some_b (omega arith) in
    omega (arith, ap length c.deref.ensures.value, ap length c.deref-2.ensures.value)

pub sum_sign-requires-clause-left : goal.sum_sign-requires-clause-left
sum_sign-requires-clause-left c =
    let x : c.in_ok-xs.xs.items ≡ extended_by (c.max-n.result + 1 - length c.args.a.now) c.args.a.now = rw c.digits.ensures.digits at c.in_ok-xs.ensures in
    rw (c.deref.ensures.value, x) (below_extended (length c.args.g.now.gates) (c.max-n.result + 1 - length c.args.a.now) c.args.a.now c.requires.left)

pub sum_sign-requires-clause-right : goal.sum_sign-requires-clause-right
sum_sign-requires-clause-right c =
    let y : c.in_ok-ys.ys.items ≡ extended_by (c.max-n.result + 1 - length c.args.b.now) c.args.b.now = rw c.digits-2.ensures.digits at c.in_ok-ys.ensures in
    rw (c.deref-2.ensures.value, y) (below_extended (length c.args.g.now.gates) (c.max-n.result + 1 - length c.args.b.now) c.args.b.now c.requires.right)

pub sum_sign-requires-clause-some : goal.sum_sign-requires-clause-some
sum_sign-requires-clause-some c =
    let n : c.max-n.result ≡ max (length c.args.a.now) (length c.args.b.now) = omega (arith, c.max-n.ensures, c.len.ensures.digits, c.len-2.ensures.digits) in
    let some_a : 1 ≤ length c.args.a.now = omega (arith, c.len.ensures.digits, c.len.ensures.some) in
    let some_b : 1 ≤ length c.args.b.now = omega (arith, c.len-2.ensures.digits, c.len-2.ensures.some) in
    let x : c.in_ok-xs.xs.items ≡ extended_by (c.max-n.result + 1 - length c.args.a.now) c.args.a.now = rw c.digits.ensures.digits at c.in_ok-xs.ensures in
    let y : c.in_ok-ys.ys.items ≡ extended_by (c.max-n.result + 1 - length c.args.b.now) c.args.b.now = rw c.digits-2.ensures.digits at c.in_ok-ys.ensures in
    let size : length c.in_ok-xs.xs.items ≡ c.max-n.result + 1 = length-widened (c.max-n.result + 1) c.args.a.now c.in_ok-xs.xs.items x some_a (omega arith) in
    omega (arith, ap length c.deref.ensures.value)

pub returns-clause-value : goal.returns-clause-value
returns-clause-value c = λ bits.
    let gates = c.args.g.now.gates in
    let carry = value_of gates bits c.args.carry in
    let n : c.max-n.result ≡ max (length c.args.a.now) (length c.args.b.now) = omega (arith, c.max-n.ensures, c.len.ensures.digits, c.len-2.ensures.digits) in
    let some_a : 1 ≤ length c.args.a.now = omega (arith, c.len.ensures.digits, c.len.ensures.some) in
    let some_b : 1 ≤ length c.args.b.now = omega (arith, c.len-2.ensures.digits, c.len-2.ensures.some) in
    let x : c.in_ok-xs.xs.items ≡ extended_by (c.max-n.result + 1 - length c.args.a.now) c.args.a.now = rw c.digits.ensures.digits at c.in_ok-xs.ensures in
    let y : c.in_ok-ys.ys.items ≡ extended_by (c.max-n.result + 1 - length c.args.b.now) c.args.b.now = rw c.digits-2.ensures.digits at c.in_ok-ys.ensures in
    let size : length c.in_ok-xs.xs.items ≡ c.max-n.result + 1 = length-widened (c.max-n.result + 1) c.args.a.now c.in_ok-xs.xs.items x some_a (omega arith) in
    let y : c.in_ok-ys.ys.items ≡ extended_by (c.max-n.result + 1 - length c.args.b.now) c.args.b.now = rw c.digits-2.ensures.digits at c.in_ok-ys.ensures in
    let size_y : length c.in_ok-ys.ys.items ≡ c.max-n.result + 1 = length-widened (c.max-n.result + 1) c.args.b.now c.in_ok-ys.ys.items y some_b (omega arith) in
    let v = rw (c.deref.ensures.value, c.deref-2.ensures.value) at (c.in_ok-sign.ensures.value bits) in
    let xs = values gates bits c.in_ok-xs.xs.items in
    let ys = values gates bits c.in_ok-ys.ys.items in
    let values_x = length-map c.in_ok-xs.xs.items (value_of gates bits) in
    let values_y = length-map c.in_ok-ys.ys.items (value_of gates bits) in
    let some = sum_some carry xs ys (omega arith) (omega arith) in
    let sum = carried_sum c.max-n.result carry gates bits c.args.a.now c.args.b.now c.in_ok-xs.xs.items c.in_ok-ys.ys.items n some_a some_b x y in
    v ∙ sign-lt (sum_bits carry xs ys) some ∙ ap (λ z. int_lt z (pos 0)) sum
