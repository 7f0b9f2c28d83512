use Rattle.std.proofs.lemmas.List.Sorted.{IsPermutation-sym, Contains-permutation}
use Rattle.sat_core.proofs.TrueLiterals.{value_told, value_from}
use Rattle.sat_core.proofs.model.SatModel.new.Goals as goal

pub returns : goal.returns
returns c = λ x. (
  λ t. Contains-permutation c.sort_unstable.new.self.items c.args.vars.items x (IsPermutation-sym c.args.vars.items c.sort_unstable.new.self.items c.sort_unstable.ensures.permutation) (value_told c.sort_unstable.new.self.items x t),
  λ t. value_from c.sort_unstable.new.self.items x (Contains-permutation c.args.vars.items c.sort_unstable.new.self.items x c.sort_unstable.ensures.permutation t),
)
