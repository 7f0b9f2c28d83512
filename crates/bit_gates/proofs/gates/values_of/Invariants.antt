use Rattle.std.proofs.Common.{◌≡◌, [], ◌∷◌, take}
use Rattle.bit_gates.specs.declared.lit.Gate.TheVariants as gate
use Rattle.bit_gates.specs.Formulas.{values_onto}
use Rattle.bit_gates.proofs.gates.values_of.Given as goal

abbrev pub invariant-loop-gate : goal.invariant-loop-gate
invariant-loop-gate l = l.values.items ≡ values_onto l.bits [] (gate.True ∷ take l.gate-index l.gates)
