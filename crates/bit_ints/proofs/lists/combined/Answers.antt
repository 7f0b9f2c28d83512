use Rattle.std.proofs.Common.{length-append, ◌∷◌, [], false, arith, length, ◌<◌}
use Rattle.bit_ints.specs.Operations.{meaning}
use Rattle.bit_ints.proofs.Digits.{below_at, below_later, below_push, grown_length, grown_more}
use Rattle.bit_ints.proofs.Steps.{zip_turn}
use Rattle.bit_ints.proofs.lists.combined.Goals as goal

pub combined_digit-requires-clause-left : goal.combined_digit-requires-clause-left
combined_digit-requires-clause-left c = omega (arith, grown_length _ _ c.loop-i.invariant.grown, below_at _ c.args.xs.now c.loop-i.i (record { place = 0; positive = false }) c.requires.left c.loop-i-test.true)

pub combined_digit-requires-clause-right : goal.combined_digit-requires-clause-right
combined_digit-requires-clause-right c =
    let h : c.loop-i.i < length c.args.ys.now = omega arith in
    omega (arith, grown_length _ _ c.loop-i.invariant.grown, below_at _ c.args.ys.now c.loop-i.i (record { place = 0; positive = false }) c.requires.right h)

pub loop-i-preserved : goal.loop-i-preserved
loop-i-preserved c =
    let grown = c.in_ok-digit.ensures.grown in
    record {
      size = rw c.in_ok-push.ensures.items (omega (arith, length-append c.loop-i.digits.items (c.in_ok-digit.digit ∷ [])));
      grown = grown_more _ _ _ c.loop-i.invariant.grown grown;
      inputs = cc;
      below = rw c.in_ok-push.ensures.items (below_push _ _ _ (below_later _ _ _ c.loop-i.invariant.below (grown_length _ _ grown)) c.in_ok-digit.ensures.below);
      value = λ bits. zip_turn (meaning c.args.operation) _ _ _ bits _ _ _ _ c.loop-i.i _ _ _ _ c.loop-i.invariant.grown grown c.requires.left c.requires.right c.loop-i.invariant.below c.loop-i-test.true (omega arith) c.in_ok-push.ensures.items (c.in_ok-digit.ensures.value bits) (c.loop-i.invariant.value bits);
    }
