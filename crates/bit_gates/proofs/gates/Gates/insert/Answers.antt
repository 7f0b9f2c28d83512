use Rattle.std.proofs.Common.{◌≡◌, ◌+◌, ℕ, ◌∷◌, List, length, sym, ap, ◌∙◌, arith}
use Rattle.std.specs.List.{position_or_len}
use Rattle.bit_gates.specs.declared.lit.Gate.{Gate}
use Rattle.bit_gates.specs.declared.lit.Gate.TheVariants as gate
use Rattle.bit_gates.specs.Formulas.{Arena, same_gate}
use Rattle.bit_gates.proofs.Behind.{behind_and, and_index, and_added, and_placed}
use Rattle.bit_gates.proofs.gates.Gates.insert.Goals as goal
use Rattle.bit_gates.proofs.gates.Gates.insert.Goals.{then-added, else-added}

pub invariant_of-self-2 : goal.invariant_of-self-2
invariant_of-self-2 c =
    let v : length (gate.True ∷ c.self.inside.gates.keys) ≡ length c.args.self.now.gates = ap (λ (x : Arena). length x.gates) c.self.view_is in
    behind_and c.self.inside.inputs c.self.inside.gates.keys c.insert_full.new.self.keys c.args.a c.args.b c.self.invariant c.in_ok-index.ensures.keys (omega (arith, c.requires.left)) (omega (arith, c.requires.right))

pub returns-clause-place : goal.returns-clause-place
returns-clause-place c =
    let v : gate.True ∷ c.self.inside.gates.keys ≡ c.args.self.now.gates = ap (λ (x : Arena). x.gates) c.self.view_is in
    let m = ap (λ (gs : List Gate). position_or_len (same_gate (gate.And c.args.a c.args.b)) gs) v in
    elim c.if-added.branch [
      | then-added w ↦ w.result-is ∙ c.len-next.ensures ∙ ap (λ (gs : List Gate). length gs) (sym v) ∙ sym (and_added c.self.inside.gates.keys c.args.a c.args.b c.in_ok-index.added c.in_ok-index.ensures.added w.if-added.true) ∙ m
      | else-added w ↦ w.result-is ∙ ap (λ (n : ℕ). n + 1) c.in_ok-index.ensures.index ∙ sym (and_index c.self.inside.gates.keys c.args.a c.args.b) ∙ m
    ]

pub returns-clause-gates : goal.returns-clause-gates
returns-clause-gates c = rw (returns-clause-place c, ← c.self.view_is) (and_placed c.self.inside.gates.keys c.insert_full.new.self.keys c.args.a c.args.b c.in_ok-index.ensures.keys)
