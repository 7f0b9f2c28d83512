use Rattle.std.proofs.Common.{◌≡◌, ℕ, ◌<◌, ◌∷◌, None, Some, true, length, sym, ap, subst, ◌∙◌}
use Rattle.std.specs.List.{position_or_len}
use Rattle.bit_gates.specs.declared.lit.Gate.{Gate}
use Rattle.bit_gates.specs.declared.lit.Gate.TheVariants as gate
use Rattle.bit_gates.specs.declared.lit.Lit.{Lit}
use Rattle.bit_gates.specs.Formulas.{value_of, folded, same_gate, placed, and_place, and_lit, and_gates}
use Rattle.bit_gates.proofs.Folding.{folded_value}
use Rattle.bit_gates.proofs.Pairs.{valued, lit_placed, gates_placed, and_below, and_value}
use Rattle.bit_gates.proofs.gates.Gates.and.Goals as goal

pub returns-in-Some-clause-value : goal.returns-in-Some-clause-value
returns-in-Some-clause-value c =
    let e : folded c.args.a c.args.b ≡ Some c.in-Some.c = sym c.folded.ensures ∙ c.in-Some.is in
    rw (← c.self.view_is) (λ bits. folded_value (value_of (gate.True ∷ c.self.inside.gates.keys) bits) (valued c.self.inside.gates.keys bits) c.args.a c.args.b c.in-Some.c e)

pub returns-in_ok-place-in-None-clause-below : goal.returns-in_ok-place-in-None-clause-below
returns-in_ok-place-in-None-clause-below c =
    let e : folded c.args.a c.args.b ≡ None = sym c.folded.ensures ∙ c.in-None.is in
    let i : c.in_ok-place-in-None.place ≡ and_place c.args.self.now.gates c.args.a c.args.b = c.in_ok-place-in-None.ensures.place ∙ ap (λ (g : Gate). position_or_len (same_gate g) c.args.self.now.gates) c.ordered.ensures in
    let g : c.insert.new.self.gates ≡ and_gates c.args.self.now.gates c.args.a c.args.b = c.in_ok-place-in-None.ensures.gates ∙ (λ j. placed c.args.self.now.gates (i j) (c.ordered.ensures j)) ∙ sym (gates_placed c.args.self.now.gates c.args.a c.args.b e) in
    let l : (and_lit c.args.self.now.gates c.args.a c.args.b).place ≡ and_place c.args.self.now.gates c.args.a c.args.b = ap (λ (x : Lit). x.place) (lit_placed c.args.self.now.gates c.args.a c.args.b e) in
    rw (g, i) (subst (λ (n : ℕ). n < length (and_gates c.args.self.now.gates c.args.a c.args.b)) l (and_below c.args.self.now.gates c.args.a c.args.b c.requires.left c.requires.right))

pub returns-in_ok-place-in-None-clause-value : goal.returns-in_ok-place-in-None-clause-value
returns-in_ok-place-in-None-clause-value c =
    let e : folded c.args.a c.args.b ≡ None = sym c.folded.ensures ∙ c.in-None.is in
    let i : c.in_ok-place-in-None.place ≡ and_place c.args.self.now.gates c.args.a c.args.b = c.in_ok-place-in-None.ensures.place ∙ ap (λ (g : Gate). position_or_len (same_gate g) c.args.self.now.gates) c.ordered.ensures in
    let g : c.insert.new.self.gates ≡ and_gates c.args.self.now.gates c.args.a c.args.b = c.in_ok-place-in-None.ensures.gates ∙ (λ j. placed c.args.self.now.gates (i j) (c.ordered.ensures j)) ∙ sym (gates_placed c.args.self.now.gates c.args.a c.args.b e) in
    let l : record { place = c.in_ok-place-in-None.place; positive = true } ≡ and_lit c.args.self.now.gates c.args.a c.args.b = ap (λ (n : ℕ). record { place = n; positive = true }) i ∙ sym (lit_placed c.args.self.now.gates c.args.a c.args.b e) in
    λ bits. (λ j. value_of (g j) bits (l j)) ∙ rw (← c.self.view_is) (and_value c.self.inside.inputs c.self.inside.gates.keys bits c.args.a c.args.b (tt, c.self.invariant.below))
