use Rattle.std.proofs.Common.{◌≡◌, ◌+◌, ◌-◌, ◌≤◌, max, length, arith, ap, ◌∙◌}
use Rattle.bit_gates.specs.Formulas.{value_of}
use Rattle.bit_ints.specs.Integers.{integer, extended_by}
use Rattle.bit_ints.proofs.Digits.{below_extended}
use Rattle.bit_ints.proofs.Widths.{length-widened, carried_sum}
use Rattle.bit_ints.proofs.ops.sum_with_carry.Goals as goal

pub summed-requires-clause-same : goal.summed-requires-clause-same
summed-requires-clause-same c =
    let n : c.max-n.result ≡ max (length c.args.a.now) (length c.args.b.now) = omega (arith, c.max-n.ensures, c.len.ensures.digits, c.len-2.ensures.digits) in
    let some_a : 1 ≤ length c.args.a.now = omega (arith, c.len.ensures.digits, c.len.ensures.some) in
    let some_b : 1 ≤ length c.args.b.now = omega (arith, c.len-2.ensures.digits, c.len-2.ensures.some) in
    let x : c.in_ok-xs.xs.items ≡ extended_by (c.max-n.result + 1 - length c.args.a.now) c.args.a.now = rw c.digits.ensures.digits at c.in_ok-xs.ensures in
    let y : c.in_ok-ys.ys.items ≡ extended_by (c.max-n.result + 1 - length c.args.b.now) c.args.b.now = rw c.digits-2.ensures.digits at c.in_ok-ys.ensures in
    let size : length c.in_ok-xs.xs.items ≡ c.max-n.result + 1 = length-widened (c.max-n.result + 1) c.args.a.now c.in_ok-xs.xs.items x some_a (omega arith) in
    let size_y : length c.in_ok-ys.ys.items ≡ c.max-n.result + 1 = length-widened (c.max-n.result + 1) c.args.b.now c.in_ok-ys.ys.items y some_b (omega arith) in
    omega (arith, ap length c.deref.ensures.value, ap length c.deref-2.ensures.value)

pub summed-requires-clause-left : goal.summed-requires-clause-left
summed-requires-clause-left c =
    let x : c.in_ok-xs.xs.items ≡ extended_by (c.max-n.result + 1 - length c.args.a.now) c.args.a.now = rw c.digits.ensures.digits at c.in_ok-xs.ensures in
    rw (c.deref.ensures.value, x) (below_extended (length c.args.g.now.gates) (c.max-n.result + 1 - length c.args.a.now) c.args.a.now c.requires.left)

pub summed-requires-clause-right : goal.summed-requires-clause-right
summed-requires-clause-right c =
    let y : c.in_ok-ys.ys.items ≡ extended_by (c.max-n.result + 1 - length c.args.b.now) c.args.b.now = rw c.digits-2.ensures.digits at c.in_ok-ys.ensures in
    rw (c.deref-2.ensures.value, y) (below_extended (length c.args.g.now.gates) (c.max-n.result + 1 - length c.args.b.now) c.args.b.now c.requires.right)

pub returns-clause-width : goal.returns-clause-width
returns-clause-width c =
    let n : c.max-n.result ≡ max (length c.args.a.now) (length c.args.b.now) = omega (arith, c.max-n.ensures, c.len.ensures.digits, c.len-2.ensures.digits) in
    let some_a : 1 ≤ length c.args.a.now = omega (arith, c.len.ensures.digits, c.len.ensures.some) in
    let some_b : 1 ≤ length c.args.b.now = omega (arith, c.len-2.ensures.digits, c.len-2.ensures.some) in
    let x : c.in_ok-xs.xs.items ≡ extended_by (c.max-n.result + 1 - length c.args.a.now) c.args.a.now = rw c.digits.ensures.digits at c.in_ok-xs.ensures in
    let size : length c.in_ok-xs.xs.items ≡ c.max-n.result + 1 = length-widened (c.max-n.result + 1) c.args.a.now c.in_ok-xs.xs.items x some_a (omega arith) in
    rw c.from_vec.ensures (omega (arith, c.in_ok-digits.ensures.length, ap length c.deref.ensures.value))

pub from_vec-requires-clause-some : goal.from_vec-requires-clause-some
from_vec-requires-clause-some c =
    let n : c.max-n.result ≡ max (length c.args.a.now) (length c.args.b.now) = omega (arith, c.max-n.ensures, c.len.ensures.digits, c.len-2.ensures.digits) in
    let some_a : 1 ≤ length c.args.a.now = omega (arith, c.len.ensures.digits, c.len.ensures.some) in
    let some_b : 1 ≤ length c.args.b.now = omega (arith, c.len-2.ensures.digits, c.len-2.ensures.some) in
    let x : c.in_ok-xs.xs.items ≡ extended_by (c.max-n.result + 1 - length c.args.a.now) c.args.a.now = rw c.digits.ensures.digits at c.in_ok-xs.ensures in
    let size : length c.in_ok-xs.xs.items ≡ c.max-n.result + 1 = length-widened (c.max-n.result + 1) c.args.a.now c.in_ok-xs.xs.items x some_a (omega arith) in
    omega (arith, c.in_ok-digits.ensures.length, ap length c.deref.ensures.value)

pub from_vec-requires-clause-few : goal.from_vec-requires-clause-few
from_vec-requires-clause-few c =
    let n : c.max-n.result ≡ max (length c.args.a.now) (length c.args.b.now) = omega (arith, c.max-n.ensures, c.len.ensures.digits, c.len-2.ensures.digits) in
    let some_a : 1 ≤ length c.args.a.now = omega (arith, c.len.ensures.digits, c.len.ensures.some) in
    let some_b : 1 ≤ length c.args.b.now = omega (arith, c.len-2.ensures.digits, c.len-2.ensures.some) in
    let x : c.in_ok-xs.xs.items ≡ extended_by (c.max-n.result + 1 - length c.args.a.now) c.args.a.now = rw c.digits.ensures.digits at c.in_ok-xs.ensures in
    let size : length c.in_ok-xs.xs.items ≡ c.max-n.result + 1 = length-widened (c.max-n.result + 1) c.args.a.now c.in_ok-xs.xs.items x some_a (omega arith) in
    omega (arith, c.in_ok-digits.ensures.length, ap length c.deref.ensures.value)

pub returns-clause-value : goal.returns-clause-value
returns-clause-value c = λ bits.
    let n : c.max-n.result ≡ max (length c.args.a.now) (length c.args.b.now) = omega (arith, c.max-n.ensures, c.len.ensures.digits, c.len-2.ensures.digits) in
    let some_a : 1 ≤ length c.args.a.now = omega (arith, c.len.ensures.digits, c.len.ensures.some) in
    let some_b : 1 ≤ length c.args.b.now = omega (arith, c.len-2.ensures.digits, c.len-2.ensures.some) in
    let x : c.in_ok-xs.xs.items ≡ extended_by (c.max-n.result + 1 - length c.args.a.now) c.args.a.now = rw c.digits.ensures.digits at c.in_ok-xs.ensures in
    let y : c.in_ok-ys.ys.items ≡ extended_by (c.max-n.result + 1 - length c.args.b.now) c.args.b.now = rw c.digits-2.ensures.digits at c.in_ok-ys.ensures in
    let v = rw (c.deref.ensures.value, c.deref-2.ensures.value) at (c.in_ok-digits.ensures.value bits) in
    rw c.from_vec.ensures (ap integer v ∙ carried_sum c.max-n.result (value_of c.args.g.now.gates bits c.args.carry) c.args.g.now.gates bits c.args.a.now c.args.b.now c.in_ok-xs.xs.items c.in_ok-ys.ys.items n some_a some_b x y)
