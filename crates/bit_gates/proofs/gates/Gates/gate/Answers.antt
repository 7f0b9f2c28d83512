use Rattle.std.proofs.Common.{◌≡◌, ◌<◌, ◌-◌, ◌∷◌, List, Some, true, length, get_or, sym, ap, ◌∙◌, arith}
use Rattle.std.proofs.lemmas.Option.{slice_get-get_or}
use Rattle.bit_gates.specs.declared.lit.Gate.{Gate}
use Rattle.bit_gates.specs.declared.lit.Gate.TheVariants as gate
use Rattle.bit_gates.specs.Formulas.{Arena}
use Rattle.bit_gates.proofs.Arenas.{gate_at, value_at}
use Rattle.bit_gates.proofs.Behind.{behind_at}
use Rattle.bit_gates.proofs.Pairs.{valued}
use Rattle.bit_gates.proofs.gates.Gates.gate.Goals as goal

pub returns-then-i-eq0-clause-value : goal.returns-then-i-eq0-clause-value
returns-then-i-eq0-clause-value c = rw (c.if-i-eq0.true, ← c.self.view_is) (λ bits. (valued c.self.inside.gates.keys bits).constant true)

pub returns-else-i-eq0-clause-gate : goal.returns-else-i-eq0-clause-gate
returns-else-i-eq0-clause-gate c =
    let g : Gate = get_or c.as_slice.result.now (c.args.i - 1) gate.True in
    let v : length (gate.True ∷ c.self.inside.gates.keys) ≡ length c.args.self.now.gates = ap (λ (x : Arena). length x.gates) c.self.view_is in
    let lt : c.args.i < length (gate.True ∷ c.self.inside.gates.keys) = omega arith in
    let e = behind_at c.self.inside.gates.keys c.args.i g gate.True (omega arith) lt (ap (λ (ks : List Gate). get_or ks (c.args.i - 1) gate.True) c.as_slice.ensures.keys) in
    rw (← c.self.view_is) (slice_get-get_or (gate.True ∷ c.self.inside.gates.keys) c.args.i g lt ∙ ap (λ (x : Gate). Some x) (sym e))

pub returns-else-i-eq0-clause-below : goal.returns-else-i-eq0-clause-below
returns-else-i-eq0-clause-below c =
    let g : Gate = get_or c.as_slice.result.now (c.args.i - 1) gate.True in
    let v : length (gate.True ∷ c.self.inside.gates.keys) ≡ length c.args.self.now.gates = ap (λ (x : Arena). length x.gates) c.self.view_is in
    let lt : c.args.i < length (gate.True ∷ c.self.inside.gates.keys) = omega arith in
    let e = behind_at c.self.inside.gates.keys c.args.i g gate.True (omega arith) lt (ap (λ (ks : List Gate). get_or ks (c.args.i - 1) gate.True) c.as_slice.ensures.keys) in
    rw (← c.self.view_is) (gate_at c.self.inside.inputs (gate.True ∷ c.self.inside.gates.keys) c.args.i g (tt, c.self.invariant.below) lt e)

pub returns-else-i-eq0-clause-value : goal.returns-else-i-eq0-clause-value
returns-else-i-eq0-clause-value c =
    let g : Gate = get_or c.as_slice.result.now (c.args.i - 1) gate.True in
    let v : length (gate.True ∷ c.self.inside.gates.keys) ≡ length c.args.self.now.gates = ap (λ (x : Arena). length x.gates) c.self.view_is in
    let lt : c.args.i < length (gate.True ∷ c.self.inside.gates.keys) = omega arith in
    let e = behind_at c.self.inside.gates.keys c.args.i g gate.True (omega arith) lt (ap (λ (ks : List Gate). get_or ks (c.args.i - 1) gate.True) c.as_slice.ensures.keys) in
    rw (← c.self.view_is) (λ bits. value_at c.self.inside.inputs (gate.True ∷ c.self.inside.gates.keys) bits c.args.i g (tt, c.self.invariant.below) lt e)
