use Rattle.std.proofs.Common.{◌≡◌, ◌<◌, length, arith, ap}
use Rattle.std.proofs.lemmas.List.{length-map}
use Rattle.bit_gates.specs.Formulas.{value_of}
use Rattle.bit_ints.specs.Integers.{integer_of, values}
use Rattle.bit_ints.proofs.Digits.{grown_length, grown_more}
use Rattle.bit_ints.proofs.Halves.{next_power}
use Rattle.bit_ints.proofs.Orders.{below_get}
use Rattle.bit_ints.proofs.Raising.{raise_turn, raise_end}
use Rattle.bit_ints.proofs.left_shifts.raised.Goals as goal

pub raised_where-requires-clause-by : goal.raised_where-requires-clause-by
raised_where-requires-clause-by c =
    let place = below_get _ _ _ _ c.requires.right c.lit.ensures in
    let longer = grown_length _ _ c.loop-i.invariant.grown in
    omega (arith, place, longer)

pub loop-i-preserved : goal.loop-i-preserved
loop-i-preserved c =
    let grown = c.in_ok-moved.ensures.grown in
    let next = next_power c.loop-i.i in
    let h : c.loop-i.i < length c.args.b.now = omega arith in
    record {
      size = omega (arith, c.in_ok-moved.ensures.length, ap length c.deref.ensures.value, next);
      places = omega (arith, next);
      grown = grown_more _ _ _ c.loop-i.invariant.grown grown;
      inputs = cc;
      below = c.in_ok-moved.ensures.below;
      value = λ bits.
          let v = rw c.deref.ensures.value at (c.in_ok-moved.ensures.value bits) in
          raise_turn c.args.g.now.gates c.loop-i.g.gates c.raised_where.new.g.gates bits c.args.b.now c.loop-i.digits.items c.in_ok-moved.moved.items c.loop-i.i c.loop-i.places c.lit.result (integer_of c.args.g.now.gates bits c.args.a.now) c.loop-i.invariant.grown c.requires.right h c.lit.ensures c.loop-i.invariant.places v (c.loop-i.invariant.value bits);
    }

pub returns-clause-value : goal.returns-clause-value
returns-clause-value c = λ bits. λ n. λ e. λ s.
    let size = length-map c.args.b.now (value_of c.args.g.now.gates bits) in
    let last : c.loop-i.i ≡ c.args.count = omega arith in
    let v = rw last at (c.loop-i.invariant.value bits) in
    rw c.from_vec.ensures (raise_end (values c.args.g.now.gates bits c.args.b.now) c.args.count n (integer_of c.args.g.now.gates bits c.args.a.now) _ (omega arith) e s v)
