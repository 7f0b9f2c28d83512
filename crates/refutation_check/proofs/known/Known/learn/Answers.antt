use Rattle.std.proofs.Common.{◌++◌, List, subst}
use Rattle.refutation_check.specs.declared.lit.SatLit.{SatLit}
use Rattle.refutation_check.specs.Propagation.{IsForced}
use Rattle.refutation_check.proofs.Cuts.{listed_kept}
use Rattle.refutation_check.proofs.known.Known.learn.Goals as goal

pub returns : goal.returns
returns c = λ l t.
    let P : List SatLit → Type 0 = λ v. IsForced (c.args.clauses.now ++ c.args.more.now) v l in
    subst P c.self.view_is (c.keep_forced.ensures l (listed_kept c.keep_forced.new.slots l t))
