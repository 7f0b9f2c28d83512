use Rattle.std.proofs.Common.{List, Contains, subst, inl, inr}
use Rattle.refutation_check.specs.declared.lit.SatLit.{SatLit}
use Rattle.refutation_check.proofs.Cuts.{kept_listed, listed_kept}
use Rattle.refutation_check.proofs.known.Known.assume.Goals as goal

pub returns : goal.returns
returns c = λ k t.
    let P : List SatLit → Type 0 = λ v. Contains v k in
    elim (c.keep.ensures k (listed_kept c.keep.new.self k t)) [ inl o ↦ inl (subst P c.self.view_is (kept_listed c.self.inside.slots k o)) | inr e ↦ inr e ]
