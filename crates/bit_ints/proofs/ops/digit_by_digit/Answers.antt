use Rattle.std.proofs.Common.{◌≡◌, ◌-◌, ◌≤◌, max, length, arith, ap, ◌∙◌}
use Rattle.std.proofs.lemmas.List.{length-map}
use Rattle.bit_gates.specs.Formulas.{value_of}
use Rattle.bit_ints.specs.Halving.{digit}
use Rattle.bit_ints.specs.Integers.{integer, values, extended_by}
use Rattle.bit_ints.specs.Operations.{meaning}
use Rattle.bit_ints.proofs.Digits.{below_extended}
use Rattle.bit_ints.proofs.Places.{digit-bitwise}
use Rattle.bit_ints.proofs.Widths.{length-widened, widened_both}
use Rattle.bit_ints.proofs.ops.digit_by_digit.Goals as goal

pub combined-requires-clause-same : goal.combined-requires-clause-same
combined-requires-clause-same c =
    let n : c.max-n.result ≡ max (length c.args.a.now) (length c.args.b.now) = omega (arith, c.max-n.ensures, c.len.ensures.digits, c.len-2.ensures.digits) in
    let some_a : 1 ≤ length c.args.a.now = omega (arith, c.len.ensures.digits, c.len.ensures.some) in
    let some_b : 1 ≤ length c.args.b.now = omega (arith, c.len-2.ensures.digits, c.len-2.ensures.some) in
    let x : c.in_ok-xs.xs.items ≡ extended_by (c.max-n.result - length c.args.a.now) c.args.a.now = rw c.digits.ensures.digits at c.in_ok-xs.ensures in
    let y : c.in_ok-ys.ys.items ≡ extended_by (c.max-n.result - length c.args.b.now) c.args.b.now = rw c.digits-2.ensures.digits at c.in_ok-ys.ensures in
    let size : length c.in_ok-xs.xs.items ≡ c.max-n.result = length-widened (c.max-n.result) c.args.a.now c.in_ok-xs.xs.items x some_a (omega arith) in
    let size_y : length c.in_ok-ys.ys.items ≡ c.max-n.result = length-widened (c.max-n.result) c.args.b.now c.in_ok-ys.ys.items y some_b (omega arith) in
    omega (arith, ap length c.deref.ensures.value, ap length c.deref-2.ensures.value)

pub combined-requires-clause-left : goal.combined-requires-clause-left
combined-requires-clause-left c =
    let x : c.in_ok-xs.xs.items ≡ extended_by (c.max-n.result - length c.args.a.now) c.args.a.now = rw c.digits.ensures.digits at c.in_ok-xs.ensures in
    rw (c.deref.ensures.value, x) (below_extended (length c.args.g.now.gates) (c.max-n.result - length c.args.a.now) c.args.a.now c.requires.left)

pub combined-requires-clause-right : goal.combined-requires-clause-right
combined-requires-clause-right c =
    let y : c.in_ok-ys.ys.items ≡ extended_by (c.max-n.result - length c.args.b.now) c.args.b.now = rw c.digits-2.ensures.digits at c.in_ok-ys.ensures in
    rw (c.deref-2.ensures.value, y) (below_extended (length c.args.g.now.gates) (c.max-n.result - length c.args.b.now) c.args.b.now c.requires.right)

pub returns-clause-width : goal.returns-clause-width
returns-clause-width c =
    let n : c.max-n.result ≡ max (length c.args.a.now) (length c.args.b.now) = omega (arith, c.max-n.ensures, c.len.ensures.digits, c.len-2.ensures.digits) in
    let some_a : 1 ≤ length c.args.a.now = omega (arith, c.len.ensures.digits, c.len.ensures.some) in
    let some_b : 1 ≤ length c.args.b.now = omega (arith, c.len-2.ensures.digits, c.len-2.ensures.some) in
    let x : c.in_ok-xs.xs.items ≡ extended_by (c.max-n.result - length c.args.a.now) c.args.a.now = rw c.digits.ensures.digits at c.in_ok-xs.ensures in
    let size : length c.in_ok-xs.xs.items ≡ c.max-n.result = length-widened (c.max-n.result) c.args.a.now c.in_ok-xs.xs.items x some_a (omega arith) in
    rw c.from_vec.ensures (omega (arith, c.in_ok-digits.ensures.length, ap length c.deref.ensures.value))

pub from_vec-requires-clause-some : goal.from_vec-requires-clause-some
from_vec-requires-clause-some c =
    let n : c.max-n.result ≡ max (length c.args.a.now) (length c.args.b.now) = omega (arith, c.max-n.ensures, c.len.ensures.digits, c.len-2.ensures.digits) in
    let some_a : 1 ≤ length c.args.a.now = omega (arith, c.len.ensures.digits, c.len.ensures.some) in
    let some_b : 1 ≤ length c.args.b.now = omega (arith, c.len-2.ensures.digits, c.len-2.ensures.some) in
    let x : c.in_ok-xs.xs.items ≡ extended_by (c.max-n.result - length c.args.a.now) c.args.a.now = rw c.digits.ensures.digits at c.in_ok-xs.ensures in
    let size : length c.in_ok-xs.xs.items ≡ c.max-n.result = length-widened (c.max-n.result) c.args.a.now c.in_ok-xs.xs.items x some_a (omega arith) in
    omega (arith, c.in_ok-digits.ensures.length, ap length c.deref.ensures.value)

pub from_vec-requires-clause-few : goal.from_vec-requires-clause-few
from_vec-requires-clause-few c =
    let n : c.max-n.result ≡ max (length c.args.a.now) (length c.args.b.now) = omega (arith, c.max-n.ensures, c.len.ensures.digits, c.len-2.ensures.digits) in
    let some_a : 1 ≤ length c.args.a.now = omega (arith, c.len.ensures.digits, c.len.ensures.some) in
    let some_b : 1 ≤ length c.args.b.now = omega (arith, c.len-2.ensures.digits, c.len-2.ensures.some) in
    let x : c.in_ok-xs.xs.items ≡ extended_by (c.max-n.result - length c.args.a.now) c.args.a.now = rw c.digits.ensures.digits at c.in_ok-xs.ensures in
    let size : length c.in_ok-xs.xs.items ≡ c.max-n.result = length-widened (c.max-n.result) c.args.a.now c.in_ok-xs.xs.items x some_a (omega arith) in
    omega (arith, c.in_ok-digits.ensures.length, ap length c.deref.ensures.value)

pub returns-clause-value : goal.returns-clause-value
returns-clause-value c = λ bits.
    let n : c.max-n.result ≡ max (length c.args.a.now) (length c.args.b.now) = omega (arith, c.max-n.ensures, c.len.ensures.digits, c.len-2.ensures.digits) in
    let some_a : 1 ≤ length c.args.a.now = omega (arith, c.len.ensures.digits, c.len.ensures.some) in
    let some_b : 1 ≤ length c.args.b.now = omega (arith, c.len-2.ensures.digits, c.len-2.ensures.some) in
    let x : c.in_ok-xs.xs.items ≡ extended_by (c.max-n.result - length c.args.a.now) c.args.a.now = rw c.digits.ensures.digits at c.in_ok-xs.ensures in
    let y : c.in_ok-ys.ys.items ≡ extended_by (c.max-n.result - length c.args.b.now) c.args.b.now = rw c.digits-2.ensures.digits at c.in_ok-ys.ensures in
    let v = rw (c.deref.ensures.value, c.deref-2.ensures.value) at (c.in_ok-digits.ensures.value bits) in
    rw c.from_vec.ensures (v ∙ widened_both (meaning c.args.operation) c.max-n.result c.args.g.now.gates bits c.args.a.now c.args.b.now c.in_ok-xs.xs.items c.in_ok-ys.ys.items n x y)

pub returns-clause-digits : goal.returns-clause-digits
returns-clause-digits c = λ bits. λ k.
    let n : c.max-n.result ≡ max (length c.args.a.now) (length c.args.b.now) = omega (arith, c.max-n.ensures, c.len.ensures.digits, c.len-2.ensures.digits) in
    let x : c.in_ok-xs.xs.items ≡ extended_by (c.max-n.result - length c.args.a.now) c.args.a.now = rw c.digits.ensures.digits at c.in_ok-xs.ensures in
    let y : c.in_ok-ys.ys.items ≡ extended_by (c.max-n.result - length c.args.b.now) c.args.b.now = rw c.digits-2.ensures.digits at c.in_ok-ys.ensures in
    let v = rw (c.deref.ensures.value, c.deref-2.ensures.value) at (c.in_ok-digits.ensures.value bits) in
    let size_a = length-map c.args.a.now (value_of c.args.g.now.gates bits) in
    let size_b = length-map c.args.b.now (value_of c.args.g.now.gates bits) in
    rw c.from_vec.ensures (ap (λ vs. digit k (integer vs)) (v ∙ widened_both (meaning c.args.operation) c.max-n.result c.args.g.now.gates bits c.args.a.now c.args.b.now c.in_ok-xs.xs.items c.in_ok-ys.ys.items n x y) ∙ digit-bitwise (meaning c.args.operation) k (values c.args.g.now.gates bits c.args.a.now) (values c.args.g.now.gates bits c.args.b.now) (omega (arith, c.len.ensures.digits, c.len.ensures.some)) (omega (arith, c.len-2.ensures.digits, c.len-2.ensures.some)))
