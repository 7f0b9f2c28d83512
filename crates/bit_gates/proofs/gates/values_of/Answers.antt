use Rattle.std.proofs.Common.{◌∷◌, ◌++◌, [], List, Bool, length, get_or, sym, ap, ◌∙◌}
use Rattle.bit_gates.specs.declared.lit.Gate.{Gate}
use Rattle.bit_gates.specs.declared.lit.Gate.TheVariants as gate
use Rattle.bit_gates.specs.Formulas.{value_in, gate_meaning}
use Rattle.bit_gates.proofs.Behind.{onto_next, next_below, same_element}
use Rattle.bit_gates.proofs.gates.values_of.Goals as goal

pub meaning-v-requires : goal.meaning-v-requires
meaning-v-requires c =
    let g : Gate = get_or c.args.gates.now c.loop-gate.gate-index gate.True in
    let e = same_element c.args.gates.now c.loop-gate.gate-index gate.True g c.loop-gate-test.true in
    rw (c.deref.ensures.value, c.loop-gate.invariant) (next_below (length c.args.bits.now) c.args.bits.now c.args.gates.now c.loop-gate.gate-index g c.requires c.loop-gate-test.true e)

pub loop-gate-preserved : goal.loop-gate-preserved
loop-gate-preserved c =
    let g : Gate = get_or c.args.gates.now c.loop-gate.gate-index gate.True in
    let e = same_element c.args.gates.now c.loop-gate.gate-index gate.True g c.loop-gate-test.true in
    let m = c.meaning-v.ensures ∙ ap (λ (vs : List Bool). gate_meaning (value_in vs) c.args.bits.now g) (c.deref.ensures.value ∙ c.loop-gate.invariant) in
    c.in_ok-push-2.ensures.items ∙ (λ j. c.loop-gate.invariant j ++ m j ∷ []) ∙ sym (onto_next c.args.bits.now c.args.gates.now c.loop-gate.gate-index g c.loop-gate-test.true e)
