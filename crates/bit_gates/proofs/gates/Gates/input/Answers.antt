use Rattle.std.proofs.Common.{◌≡◌, ◌∷◌, List, length, sym, ap, ◌∙◌}
use Rattle.bit_gates.specs.declared.lit.Gate.{Gate}
use Rattle.bit_gates.specs.declared.lit.Gate.TheVariants as gate
use Rattle.bit_gates.specs.Formulas.{Arena}
use Rattle.bit_gates.proofs.Arenas.{value_added}
use Rattle.bit_gates.proofs.Behind.{input_keys, behind_input}
use Rattle.bit_gates.proofs.gates.Gates.input.Goals as goal

pub invariant_of-self-2 : goal.invariant_of-self-2
invariant_of-self-2 c =
    let e = input_keys c.self.inside.inputs c.self.inside.gates.keys c.insert.new.self.keys c.self.invariant c.in_ok-insert.ensures.keys in
    behind_input c.self.inside.inputs c.self.inside.gates.keys c.insert.new.self.keys c.self.invariant e

pub returns-clause-gates : goal.returns-clause-gates
returns-clause-gates c =
    let e = input_keys c.self.inside.inputs c.self.inside.gates.keys c.insert.new.self.keys c.self.invariant c.in_ok-insert.ensures.keys in
    rw (e, ← c.self.view_is)

pub returns-clause-value : goal.returns-clause-value
returns-clause-value c = λ bits.
    let gs : List Gate = gate.True ∷ c.self.inside.gates.keys in
    let e = input_keys c.self.inside.inputs c.self.inside.gates.keys c.insert.new.self.keys c.self.invariant c.in_ok-insert.ensures.keys in
    let v : length c.args.self.now.gates ≡ length gs = ap (λ (x : Arena). length x.gates) (sym c.self.view_is) in
    rw (e, ← c.self.view_is) (value_added (gate.True ∷ c.self.inside.gates.keys) bits (gate.Input c.self.inside.inputs) c.len-next.result (c.len-next.ensures ∙ v))
