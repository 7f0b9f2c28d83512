use Rattle.std.proofs.Common.{◌≡◌, ◌+◌, ◌-◌, false, arith, length, ◌<◌}
use Rattle.bit_gates.proofs.Arenas.{value_kept}
use Rattle.bit_ints.proofs.Digits.{below_at, grown_length, grown_more}
use Rattle.bit_ints.proofs.Steps.{sign_turn, sign_end}
use Rattle.bit_ints.proofs.lists.sum_sign.Goals as goal

pub majority-requires-clause-left : goal.majority-requires-clause-left
majority-requires-clause-left c =
    let h : c.loop-i.i < length c.args.xs.now = omega arith in
    omega (arith, grown_length _ _ c.loop-i.invariant.grown, below_at _ c.args.xs.now c.loop-i.i (record { place = 0; positive = false }) c.requires.left h)

pub majority-requires-clause-right : goal.majority-requires-clause-right
majority-requires-clause-right c =
    let h : c.loop-i.i < length c.args.ys.now = omega arith in
    omega (arith, grown_length _ _ c.loop-i.invariant.grown, below_at _ c.args.ys.now c.loop-i.i (record { place = 0; positive = false }) c.requires.right h)

pub loop-i-preserved : goal.loop-i-preserved
loop-i-preserved c =
    let grown = c.in_ok-next.ensures.grown in
    let hx : c.loop-i.i + 1 < length c.args.xs.now = omega arith in
    let hy : c.loop-i.i + 1 < length c.args.ys.now = omega arith in
    record {
      grown = grown_more _ _ _ c.loop-i.invariant.grown grown;
      inputs = cc;
      carry_below = c.in_ok-next.ensures.below;
      value = λ bits. sign_turn _ _ _ bits _ _ c.loop-i.i _ _ _ _ _ c.loop-i.invariant.grown c.requires.left c.requires.right hx hy (c.in_ok-next.ensures.value bits) (c.loop-i.invariant.value bits);
    }

pub xor-requires-clause-left : goal.xor-requires-clause-left
xor-requires-clause-left c =
    let h : length c.args.xs.now - 1 < length c.args.xs.now = omega arith in
    omega (arith, grown_length _ _ c.loop-i.invariant.grown, below_at _ c.args.xs.now (length c.args.xs.now - 1) (record { place = 0; positive = false }) c.requires.left h)

pub xor-requires-clause-right : goal.xor-requires-clause-right
xor-requires-clause-right c =
    let h : length c.args.xs.now - 1 < length c.args.ys.now = omega arith in
    omega (arith, grown_length _ _ c.loop-i.invariant.grown, below_at _ c.args.ys.now (length c.args.xs.now - 1) (record { place = 0; positive = false }) c.requires.right h)

pub returns-clause-value : goal.returns-clause-value
returns-clause-value c = λ bits.
    let end : c.loop-i.i ≡ length c.args.xs.now - 1 = omega arith in
    let inv = rw end at (c.loop-i.invariant.value bits) in
    let carry = value_kept _ _ bits c.loop-i.carry c.in_ok-half.ensures.grown c.loop-i.invariant.carry_below in
    rw (c.in_ok-digit.ensures.value bits, c.in_ok-half.ensures.value bits, carry) (sign_end c.args.g.now.gates c.loop-i.g.gates bits c.args.xs.now c.args.ys.now (length c.args.xs.now - 1) (record { place = 0; positive = false }) (record { place = 0; positive = false }) c.loop-i.carry _ c.loop-i.invariant.grown c.requires.left c.requires.right (omega arith) (omega arith) inv)
