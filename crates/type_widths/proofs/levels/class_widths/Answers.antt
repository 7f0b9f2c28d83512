use Rattle.std.proofs.Common.{◌≡◌, ℕ, suc, arith, subst}
use Rattle.spec_types.specs.Widths.{class_width}
use Rattle.given_types.specs.Giving.{all_given}
use Rattle.value_types.specs.Widths.{AreCapped}
use Rattle.type_widths.proofs.levels.class_widths.Goals as goal

pub returns-clause-widths : goal.returns-clause-widths
returns-clause-widths c =
    let last : c.loop-level._level ≡ suc c.args.max_nest = omega (arith, c.loop-level-test.false, c.loop-level.auto._level-end, c.from-level-end.ensures) in
    subst (λ (n : ℕ). AreCapped c.loop-level.widths.items (class_width (all_given c.args.module.now c.args.taken.now) c.args.max_len n)) last c.loop-level.invariant.1
