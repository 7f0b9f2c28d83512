use Rattle.std.proofs.Common.{◌≡◌, ◌-◌, ◌≤◌, max, length, arith, ap, ◌∙◌}
use Rattle.bit_ints.specs.Integers.{extended_by}
use Rattle.bit_ints.proofs.Digits.{below_extended}
use Rattle.bit_ints.proofs.Widths.{length-widened}
use Rattle.bit_ints.proofs.Equals.{same_ints}
use Rattle.bit_ints.proofs.ops.eq.Goals as goal

pub same-requires-clause-longer : goal.same-requires-clause-longer
same-requires-clause-longer c =
    let n : c.max-n.result ≡ max (length c.args.a.now) (length c.args.b.now) = omega (arith, c.max-n.ensures, c.len.ensures.digits, c.len-2.ensures.digits) in
    let some_a : 1 ≤ length c.args.a.now = omega (arith, c.len.ensures.digits, c.len.ensures.some) in
    let some_b : 1 ≤ length c.args.b.now = omega (arith, c.len-2.ensures.digits, c.len-2.ensures.some) in
    let x : c.in_ok-xs.xs.items ≡ extended_by (c.max-n.result - length c.args.a.now) c.args.a.now = rw c.digits.ensures.digits at c.in_ok-xs.ensures in
    let y : c.in_ok-ys.ys.items ≡ extended_by (c.max-n.result - length c.args.b.now) c.args.b.now = rw c.digits-2.ensures.digits at c.in_ok-ys.ensures in
    let size : length c.in_ok-xs.xs.items ≡ c.max-n.result = length-widened (c.max-n.result) c.args.a.now c.in_ok-xs.xs.items x some_a (omega arith) in
    let size_y : length c.in_ok-ys.ys.items ≡ c.max-n.result = length-widened (c.max-n.result) c.args.b.now c.in_ok-ys.ys.items y some_b (omega arith) in
    omega (arith, ap length c.deref.ensures.value, ap length c.deref-2.ensures.value)

pub same-requires-clause-left : goal.same-requires-clause-left
same-requires-clause-left c =
    let x : c.in_ok-xs.xs.items ≡ extended_by (c.max-n.result - length c.args.a.now) c.args.a.now = rw c.digits.ensures.digits at c.in_ok-xs.ensures in
    rw (c.deref.ensures.value, x) (below_extended (length c.args.g.now.gates) (c.max-n.result - length c.args.a.now) c.args.a.now c.requires.left)

pub same-requires-clause-right : goal.same-requires-clause-right
same-requires-clause-right c =
    let y : c.in_ok-ys.ys.items ≡ extended_by (c.max-n.result - length c.args.b.now) c.args.b.now = rw c.digits-2.ensures.digits at c.in_ok-ys.ensures in
    rw (c.deref-2.ensures.value, y) (below_extended (length c.args.g.now.gates) (c.max-n.result - length c.args.b.now) c.args.b.now c.requires.right)

pub returns-clause-value : goal.returns-clause-value
returns-clause-value c = λ bits.
    let n : c.max-n.result ≡ max (length c.args.a.now) (length c.args.b.now) = omega (arith, c.max-n.ensures, c.len.ensures.digits, c.len-2.ensures.digits) in
    let some_a : 1 ≤ length c.args.a.now = omega (arith, c.len.ensures.digits, c.len.ensures.some) in
    let some_b : 1 ≤ length c.args.b.now = omega (arith, c.len-2.ensures.digits, c.len-2.ensures.some) in
    let x : c.in_ok-xs.xs.items ≡ extended_by (c.max-n.result - length c.args.a.now) c.args.a.now = rw c.digits.ensures.digits at c.in_ok-xs.ensures in
    let y : c.in_ok-ys.ys.items ≡ extended_by (c.max-n.result - length c.args.b.now) c.args.b.now = rw c.digits-2.ensures.digits at c.in_ok-ys.ensures in
    let size : length c.in_ok-xs.xs.items ≡ c.max-n.result = length-widened (c.max-n.result) c.args.a.now c.in_ok-xs.xs.items x some_a (omega arith) in
    let size_y : length c.in_ok-ys.ys.items ≡ c.max-n.result = length-widened (c.max-n.result) c.args.b.now c.in_ok-ys.ys.items y some_b (omega arith) in
    let v = rw (c.deref.ensures.value, c.deref-2.ensures.value) at (c.in_ok-equal.ensures.value bits) in
    v ∙ same_ints c.max-n.result c.args.g.now.gates bits c.args.a.now c.args.b.now c.in_ok-xs.xs.items c.in_ok-ys.ys.items some_a some_b size size_y x y (omega arith)
