use Rattle.std.proofs.Common.{◌≡◌, ◌&&◌, ◌||◌, Bool, true, false, not, if◌then◌else◌, refl}
use Rattle.bit_gates.specs.Formulas.{value_of}
use Rattle.bit_gates.proofs.Arenas.{value_kept}
use Rattle.bit_ints.proofs.shifts.chosen_digit.Goals as goal

-- the first where it is chosen, or the second where it is not
choice : (s x y : Bool) → ((s && x) || (not s && y)) ≡ (if s then x else y)
choice true true y = refl
choice true false y = refl
choice false x y = refl

pub returns-clause-value : goal.returns-clause-value
returns-clause-value c = λ bits.
    let by = value_kept _ _ bits c.args.by c.in_ok-first.ensures.grown c.requires.by in
    let no = value_kept _ _ bits c.args.no c.in_ok-first.ensures.grown c.requires.no in
    let first = value_kept _ _ bits c.in_ok-first.first c.in_ok-second.ensures.grown c.in_ok-first.ensures.below in
    rw (c.in_ok-digit.ensures.value bits, first, c.in_ok-first.ensures.value bits, c.in_ok-second.ensures.value bits, c.not-not_by.ensures.value bits, by, no) (choice (value_of c.args.g.now.gates bits c.args.by) (value_of c.args.g.now.gates bits c.args.yes) (value_of c.args.g.now.gates bits c.args.no))
