use Rattle.std.proofs.Common.{false, arith, length, ◌<◌}
use Rattle.bit_gates.proofs.Arenas.{value_kept}
use Rattle.bit_ints.proofs.Digits.{below_at, grown_length, grown_more}
use Rattle.bit_ints.proofs.Steps.{same_turn, same_end}
use Rattle.bit_ints.proofs.lists.same.Goals as goal

pub xor-requires-clause-left : goal.xor-requires-clause-left
xor-requires-clause-left c =
    let h : c.loop-i.i < length c.args.xs.now = omega arith in
    omega (arith, grown_length _ _ c.loop-i.invariant.grown, below_at _ c.args.xs.now c.loop-i.i (record { place = 0; positive = false }) c.requires.left h)

pub xor-requires-clause-right : goal.xor-requires-clause-right
xor-requires-clause-right c = omega (arith, grown_length _ _ c.loop-i.invariant.grown, below_at _ c.args.ys.now c.loop-i.i (record { place = 0; positive = false }) c.requires.right c.loop-i-test.true)

pub loop-i-preserved : goal.loop-i-preserved
loop-i-preserved c =
    let h : c.loop-i.i < length c.args.xs.now = omega arith in
    record {
      grown = grown_more _ _ _ c.loop-i.invariant.grown (grown_more _ _ _ c.in_ok-differ.ensures.grown c.in_ok-all.ensures.grown);
      inputs = cc;
      below = c.in_ok-all.ensures.below;
      value = λ bits.
          let all = value_kept _ _ bits c.loop-i.all c.in_ok-differ.ensures.grown c.loop-i.invariant.below in
          let next = rw (all, c.not-agree.ensures.value bits, c.in_ok-differ.ensures.value bits) at (c.in_ok-all.ensures.value bits) in
          same_turn _ _ bits _ _ c.loop-i.i _ _ _ _ _ c.loop-i.invariant.grown c.requires.left c.requires.right h c.loop-i-test.true next (c.loop-i.invariant.value bits);
    }

pub returns-clause-value : goal.returns-clause-value
returns-clause-value c = λ bits. same_end _ bits c.args.xs.now c.args.ys.now c.loop-i.i _ _ c.loop-i-test.false (c.loop-i.invariant.value bits)
