use Rattle.std.proofs.Common.{◌++◌, List, subst}
use Rattle.refutation_check.specs.declared.lit.SatLit.{SatLit}
use Rattle.refutation_check.specs.Refutations.{Follows}
use Rattle.refutation_check.proofs.known.Known.shows.Goals as goal

pub returns-clause-shown : goal.returns-clause-shown
returns-clause-shown c = λ h.
    let K : List (List SatLit) → Type 0 = λ k. Follows (k ++ c.args.refutation.now) c.args.self.now c.args.clause.now in
    let R : List (List SatLit) → Type 0 = λ r. Follows (c.as_slice.result.now ++ r) c.args.self.now c.args.clause.now in
    subst K c.as_slice.ensures (subst R c.as_slice-2.ensures (c.shows_from.ensures.shown h))
