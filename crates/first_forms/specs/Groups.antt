-- The contract lines of functions, by their numbers.
use Rattle.std.specs.Prelude.{◌≡◌, ◌<◌, ℕ, List, length, get_or, filter}
use Rattle.std.specs.Global.{Vec}
use Rattle.spec_types.specs.Signatures.{is_function}
use Rattle.contract_owners.specs.Members.{owner_in}
use Rattle.contract_lines.specs.declared.contracts.ContractLine.{ContractLine}

-- those of the function of a number
abbrev pub lines_of : ℕ → List ContractLine → List ContractLine
lines_of k ls = filter (λ (l : ContractLine). is_function k (owner_in l.owner)) ls

-- these are the contract lines of the first n functions
pub record AreGrouped (n : ℕ) (ls : List ContractLine) (groups : List (Vec ContractLine)) : Type 0 where
  pub size : length groups ≡ n
  pub lines : (k : ℕ) (d : Vec ContractLine) → k < n → (get_or groups k d).items ≡ lines_of k ls
