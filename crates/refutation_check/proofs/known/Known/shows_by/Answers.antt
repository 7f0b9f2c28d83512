use Rattle.std.proofs.Common.{◌++◌, List, Contains, subst}
use Rattle.refutation_check.specs.declared.lit.SatLit.{SatLit}
use Rattle.refutation_check.specs.Refutations.{Follows}
use Rattle.refutation_check.proofs.Cuts.{kept_listed, listed_kept}
use Rattle.refutation_check.proofs.known.Known.shows_by.Goals as goal

pub returns-clause-kept : goal.returns-clause-kept
returns-clause-kept c = λ l t.
    let P : List SatLit → Type 0 = λ v. Contains v l in
    subst P c.self.view_is (kept_listed c.self.inside.slots l (c.shows.ensures.kept l (listed_kept c.shows.new.slots l t)))

pub returns-clause-shown : goal.returns-clause-shown
returns-clause-shown c = λ h.
    let P : List SatLit → Type 0 = λ v. Follows (c.args.clauses.now ++ c.args.more.now) v c.args.clause.now in
    subst P c.self.view_is (c.shows.ensures.shown h)
