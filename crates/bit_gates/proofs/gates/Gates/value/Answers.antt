use Rattle.std.proofs.Common.{◌≡◌, ◌∷◌, [], List, Bool, length, take, sym, ap, ◌∙◌, arith}
use Rattle.bit_gates.specs.declared.lit.Gate.{Gate}
use Rattle.bit_gates.specs.declared.lit.Gate.TheVariants as gate
use Rattle.bit_gates.specs.Formulas.{Arena, values_onto, value_in, value_of}
use Rattle.bit_gates.proofs.Behind.{from_take, length_front, value_front}
use Rattle.bit_gates.proofs.gates.Gates.value.Goals as goal

pub values_of-requires : goal.values_of-requires
values_of-requires c =
    let i : length c.args.bits.now ≡ c.self.inside.inputs = c.requires.bits ∙ ap (λ (x : Arena). x.inputs) (sym c.self.view_is) in
    rw (i, c.as_slice.ensures.keys) (from_take c.self.inside.inputs 1 c.args.a.place c.self.inside.gates.keys c.self.invariant.below)

pub literal_value-requires : goal.literal_value-requires
literal_value-requires c =
    let v : length (gate.True ∷ c.self.inside.gates.keys) ≡ length c.args.self.now.gates = ap (λ (x : Arena). length x.gates) c.self.view_is in
    rw (c.deref.ensures.value, c.in_ok-values.ensures, c.as_slice.ensures.keys) (length_front c.args.bits.now c.self.inside.gates.keys c.args.a.place (omega (arith, c.requires.place)))

pub returns : goal.returns
returns c =
    let v : length (gate.True ∷ c.self.inside.gates.keys) ≡ length c.args.self.now.gates = ap (λ (x : Arena). length x.gates) c.self.view_is in
    let f = value_front c.self.inside.gates.keys c.args.bits.now c.args.a (omega (arith, c.requires.place)) in
    c.literal_value.ensures
    ∙ ap (λ (vs : List Bool). value_in vs c.args.a) (c.deref.ensures.value ∙ c.in_ok-values.ensures ∙ ap (λ (ks : List Gate). values_onto c.args.bits.now [] (gate.True ∷ take c.args.a.place ks)) c.as_slice.ensures.keys)
    ∙ sym f
    ∙ ap (λ (x : Arena). value_of x.gates c.args.bits.now c.args.a) c.self.view_is
