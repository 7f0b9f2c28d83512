use Rattle.std.proofs.Common.{◌≡◌, ◌-◌, ◌*◌, ◌<◌, suc, min, length, arith, ap}
use Rattle.std.proofs.lemmas.List.{length-map}
use Rattle.bit_gates.specs.Formulas.{value_of}
use Rattle.bit_ints.specs.Integers.{integer_of, values}
use Rattle.bit_ints.proofs.Digits.{grown_length, grown_more}
use Rattle.bit_ints.proofs.Halves.{next_places, lower_turn, lower_end}
use Rattle.bit_ints.proofs.Orders.{below_get}
use Rattle.bit_ints.proofs.shifts.lowered.Goals as goal

pub shifted_where-requires-clause-by : goal.shifted_where-requires-clause-by
shifted_where-requires-clause-by c =
    let place = below_get _ _ _ _ c.requires.right c.lit.ensures in
    let longer = grown_length _ _ c.loop-i.invariant.grown in
    omega (arith, place, longer)

pub loop-i-preserved : goal.loop-i-preserved
loop-i-preserved c =
    let k = c.len-last.result - 1 in
    let grown = c.in_ok-moved.ensures.grown in
    let same = ap length c.deref.ensures.value in
    let h : c.loop-i.i < length c.args.b.now = omega arith in
    let size : length c.loop-i.digits.items ≡ suc k = omega (arith, c.len-last.ensures.digits, c.len-last.ensures.some) in
    let next : c.min-places-in-loop-i.result ≡ min k (c.loop-i.places * 2) = omega (arith, c.min-places-in-loop-i.ensures) in
    record {
      size = omega (arith, c.in_ok-moved.ensures.length);
      places = next_places k c.loop-i.places _ c.loop-i.i c.loop-i.invariant.places next;
      grown = grown_more _ _ _ c.loop-i.invariant.grown grown;
      inputs = cc;
      below = c.in_ok-moved.ensures.below;
      value = λ bits.
          let v = rw c.deref.ensures.value at (c.in_ok-moved.ensures.value bits) in
          lower_turn c.args.g.now.gates c.loop-i.g.gates c.shifted_where.new.g.gates bits c.args.b.now c.loop-i.digits.items c.in_ok-moved.moved.items c.loop-i.i c.loop-i.places k c.lit.result (integer_of c.args.g.now.gates bits c.args.a.now) c.loop-i.invariant.grown c.requires.right h c.lit.ensures size c.loop-i.invariant.places v (c.loop-i.invariant.value bits);
    }

pub returns-clause-value : goal.returns-clause-value
returns-clause-value c = λ bits. λ n. λ e. λ s.
    let size = length-map c.args.b.now (value_of c.args.g.now.gates bits) in
    let last : c.loop-i.i ≡ c.args.count = omega arith in
    let v = rw last at (c.loop-i.invariant.value bits) in
    lower_end (values c.args.g.now.gates bits c.args.b.now) c.args.count n (integer_of c.args.g.now.gates bits c.args.a.now) _ (omega arith) e s v
