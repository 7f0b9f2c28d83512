-- Marks of the functions and classes that own contract lines.
use Rattle.std.specs.Prelude.{◌≡◌, ◌<◌, ℕ, Bool, false, List, length, map, get_or, Some}
use Rattle.std.specs.List.{list_any}
use Rattle.spec_contracts.specs.Owners.{Owner}
use Rattle.spec_types.specs.Signatures.{is_class, is_function}
use Rattle.contract_owners.specs.Members.{owner_in}
use Rattle.contract_lines.specs.declared.contracts.ContractLine.{ContractLine}
use Rattle.checked_functions.specs.declared.marks.Marks.{Marks}

-- the owners of contract lines
abbrev pub owners_of : List ContractLine → List Owner
owners_of ls = map (λ (l : ContractLine). owner_in l.owner) ls

-- a thing of the number k is marked where such a test is true of one of these owners
abbrev pub AreMarked : (ℕ → Owner → Bool) → List Owner → List Bool → Type 0
AreMarked test os marks = (k : ℕ) → k < length marks → get_or marks k false ≡ list_any (test k) os

-- of m functions and n classes, those that own contract lines are marked
pub record Mark (m n : ℕ) (os : List Owner) (marks : Marks) : Type 0 where
  pub functions_size : length marks.functions.items ≡ m
  pub classes_size : length marks.classes.items ≡ n
  pub functions : AreMarked is_function os marks.functions.items
  pub classes : AreMarked (λ k. is_class (Some k)) os marks.classes.items
