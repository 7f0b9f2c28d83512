use Rattle.std.proofs.Common.{◌≡◌, ◌+◌, ◌-◌, ◌<◌, ◌≤◌, ◌++◌, ◌∷◌, [], length, slice_get, Some, arith, length-append, ap, sym, ◌∙◌}
use Rattle.std.proofs.lemmas.List.{append-nil}
use Rattle.bit_ints.proofs.Digits.{below_later, below_push, grown_length, grown_more}
use Rattle.bit_ints.proofs.Orders.{below_get}
use Rattle.bit_ints.proofs.Rows.{row_turn, last_row, no_row, below_append}
use Rattle.bit_ints.proofs.products.product.Goals as goal

pub loop-i-init : goal.loop-i-init
loop-i-init c =
    record {
      size = rw c.in_ok-digits.ensures.items (omega arith);
      width = rw c.in_ok-rest.ensures (omega arith);
      grown = record { more = []; is = sym (append-nil c.args.g.now.gates) };
      inputs = cc;
      below = rw c.in_ok-digits.ensures.items tt;
      rest_below = rw c.in_ok-rest.ensures (c.constant-zero.ensures.below, tt);
      value = λ bits. no_row _ bits _ _ _ _ c.in_ok-digits.ensures.items c.in_ok-rest.ensures (c.constant-zero.ensures.value bits);
    }

pub add_row-requires-clause-left : goal.add_row-requires-clause-left
add_row-requires-clause-left c = below_later _ _ _ c.requires.left (grown_length _ _ c.loop-i.invariant.grown)

pub add_row-requires-clause-by : goal.add_row-requires-clause-by
add_row-requires-clause-by c =
    let place = below_get _ _ _ _ c.requires.right c.lit.ensures in
    let longer = grown_length _ _ c.loop-i.invariant.grown in
    omega (arith, place, longer)

pub loop-i-preserved : goal.loop-i-preserved
loop-i-preserved c =
    let grown = c.in_ok-low.ensures.grown in
    let below = c.in_ok-low.ensures.below in
    let some : 1 ≤ length c.in_ok-low.more = omega (arith, c.in_ok-low.ensures.width) in
    let h : c.loop-i.i + 1 < length c.args.b.now = omega (arith, c.len-last.ensures.digits) in
    record {
      size = rw c.in_ok-push.ensures.items (omega (arith, length-append c.loop-i.digits.items (c.in_ok-low.low ∷ [])));
      width = omega (arith, c.in_ok-low.ensures.width);
      grown = grown_more _ _ _ c.loop-i.invariant.grown grown;
      inputs = cc;
      below = rw c.in_ok-push.ensures.items (below_push _ _ _ (below_later _ _ _ c.loop-i.invariant.below (grown_length _ _ grown)) below.0);
      rest_below = below.1;
      value = λ bits. row_turn _ _ _ bits _ _ _ _ _ _ c.loop-i.i _ _ _ c.loop-i.invariant.grown grown c.requires.left c.requires.right c.loop-i.invariant.below h c.lit.ensures c.in_ok-push.ensures.items some (c.in_ok-low.ensures.value bits) (c.loop-i.invariant.value bits);
    }

pub masked-requires-clause-left : goal.masked-requires-clause-left
masked-requires-clause-left c = below_later _ _ _ c.requires.left (grown_length _ _ c.loop-i.invariant.grown)

pub masked-requires-clause-by : goal.masked-requires-clause-by
masked-requires-clause-by c =
    let place = below_get _ _ _ _ c.requires.right c.lit-2.ensures in
    let longer = grown_length _ _ c.loop-i.invariant.grown in
    omega (arith, place, longer)

pub sub-requires-clause-left : goal.sub-requires-clause-left
sub-requires-clause-left c = below_later _ _ _ c.loop-i.invariant.rest_below (grown_length _ _ c.in_ok-row.ensures.grown)

pub returns-clause-below : goal.returns-clause-below
returns-clause-below c =
    let grown = grown_more _ _ _ c.in_ok-row.ensures.grown c.in_ok-high.ensures.grown in
    rw (c.from_vec.ensures, c.in_ok-extend_from_slice.ensures.items, c.digits.ensures.digits) (below_append _ _ _ (below_later _ _ _ c.loop-i.invariant.below (grown_length _ _ grown)) c.in_ok-high.ensures.below)

pub returns-clause-value : goal.returns-clause-value
returns-clause-value c = λ bits.
    let whole : c.from_vec.result ≡ c.loop-i.digits.items ++ c.in_ok-high.high = c.from_vec.ensures ∙ c.in_ok-extend_from_slice.ensures.items ∙ ap (λ ls. c.loop-i.digits.items ++ ls) c.digits.ensures.digits in
    let last : c.loop-i.i ≡ c.len-last.result - 1 = omega arith in
    let place : slice_get c.args.b.now c.loop-i.i ≡ Some c.lit-2.result = ap (slice_get c.args.b.now) last ∙ c.lit-2.ensures in
    let some : 1 ≤ length c.in_ok-high.high = omega (arith, c.in_ok-high.ensures.width) in
    last_row c.args.g.now.gates c.loop-i.g.gates c.masked.new.g.gates c.sub.new.g.gates bits c.args.a.now c.args.b.now c.loop-i.rest c.in_ok-row.row c.in_ok-high.high c.loop-i.digits.items c.from_vec.result c.loop-i.i c.lit-2.result _ c.loop-i.invariant.grown c.in_ok-row.ensures.grown c.in_ok-high.ensures.grown c.requires.left c.requires.right c.loop-i.invariant.below c.loop-i.invariant.rest_below (omega (arith, c.len-last.ensures.digits)) place whole some (c.in_ok-row.ensures.value bits) (c.in_ok-high.ensures.value bits) (c.loop-i.invariant.value bits)
