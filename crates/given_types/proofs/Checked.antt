-- The functions of a module are those of which it is known whether they are checked.
use Rattle.std.proofs.Common.{◌≡◌, ℕ, suc, List, [], ◌∷◌, refl, ap}
use Rattle.spec_trees.specs.Module.{Block}
use Rattle.spec_contracts.specs.ContractLines.{ContractLine}
use Rattle.spec_uses.specs.Functions.{FunctionOf}
use Rattle.spec_types.specs.Signatures.{Signature, signature, signatures_from}
use Rattle.given_types.specs.Checked.{checks, signatures_as}

pub signatures_are : (b : Block) (ls : List ContractLine) (i : ℕ) (fs : List FunctionOf) → signatures_as b (checks ls i fs) fs ≡ signatures_from b ls i fs
signatures_are b ls i [] = refl
signatures_are b ls i (f ∷ fs) = ap (λ (ss : List Signature). signature b ls i f ∷ ss) (signatures_are b ls (suc i) fs)
