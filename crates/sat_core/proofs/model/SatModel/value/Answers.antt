use Rattle.std.proofs.Common.{ℕ, List, subst, ap, ◌∙◌}
use Rattle.std.specs.Ordering.{nat_cmp}
use Rattle.std.specs.List.Sorted.{IsBinarySearchResult}
use Rattle.refutation_check.specs.declared.lit.SatLit.{SatLit}
use Rattle.sat_core.specs.Models.{model_value}
use Rattle.sat_core.proofs.TrueLiterals.{value_searched}
use Rattle.sat_core.proofs.model.SatModel.value.Goals as goal

pub returns : goal.returns
returns c =
    let P : List ℕ → Type 0 = λ v. IsBinarySearchResult (λ y. nat_cmp y c.args.var) v c.binary_search.result in
    let found = subst P c.deref.ensures.value c.binary_search.ensures.position in
    c.is_ok.ensures.value ∙ value_searched c.self.inside.vars.items c.args.var c.binary_search.result c.self.invariant found ∙ ap (λ (v : List SatLit). model_value v c.args.var) c.self.view_is
