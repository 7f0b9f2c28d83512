use Rattle.std.proofs.Common.{◌∷◌, [], ◌<◌, length, length-append, ap, arith}
use Rattle.bit_gates.specs.declared.lit.Gate.TheVariants as gate
use Rattle.bit_gates.specs.Formulas.{Extends}
use Rattle.bit_ints.proofs.Digits.{below_later, below_push, grown_length, grown_more}
use Rattle.bench_ints.proofs.measure.symbolic.Goals as goal

pub loop-digit-preserved : goal.loop-digit-preserved
loop-digit-preserved c =
    let grown : Extends c.loop-digit.g.gates c.input.new.self.gates = record { more = gate.Input c.loop-digit.g.inputs ∷ []; is = c.in_ok-input.ensures.gates } in
    let size = ap length c.in_ok-input.ensures.gates in
    let more = length-append c.loop-digit.g.gates (gate.Input c.loop-digit.g.inputs ∷ []) in
    let place : c.in_ok-input.input.place < length c.input.new.self.gates = rw c.in_ok-input.ensures.literal (omega arith) in
    record {
      size = rw c.in_ok-push.ensures.items (omega (arith, length-append c.loop-digit.lits.items (c.in_ok-input.input ∷ [])));
      below = rw c.in_ok-push.ensures.items (below_push _ _ _ (below_later _ _ _ c.loop-digit.invariant.below (grown_length _ _ grown)) place);
      grown = grown_more _ _ _ c.loop-digit.invariant.grown grown;
    }
