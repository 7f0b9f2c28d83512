use Rattle.bit_gates.specs.Formulas.{value_of}
use Rattle.bit_gates.proofs.Arenas.{value_kept}
use Rattle.bit_ints.proofs.Flips.{negated-is}
use Rattle.bit_ints.proofs.signs.negated_where.Goals as goal

pub returns-clause-value : goal.returns-clause-value
returns-clause-value c = λ bits.
    let by = value_kept _ _ bits c.args.by c.in_ok-flipped.ensures.grown c.requires.by in
    let sum = rw by at (c.in_ok-negated.ensures.value bits) in
    negated-is (value_of c.args.g.now.gates bits c.args.by) _ _ _ _ (c.in_ok-flipped.ensures.value bits) (c.in_ok-none.ensures.value bits) sum
