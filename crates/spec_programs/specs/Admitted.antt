-- The programs that modules are admitted as.
use Rattle.std.specs.Prelude.{◌≡◌, ℕ, List, None, Ok}
use Rattle.spec_trees.specs.Module.{Block}
use Rattle.spec_contracts.specs.ContractLines.{ContractLine, contracts_of}
use Rattle.spec_profile.specs.Profile.{profile_refusal}
use Rattle.spec_programs.specs.Program.{Program}
use Rattle.spec_programs.specs.Programs.{program_of}

-- The program is that of a module with its contract lines, of which nothing is refused, where lists are no longer than
-- max_len and new objects stand in each other no deeper than max_nest.
pub record IsAdmitted (max_len max_nest : ℕ) (p : Program) : Type 0 where
  pub body : Block
  pub lines : List ContractLine
  pub contracts : contracts_of body ≡ Ok lines
  pub unrefused : profile_refusal body lines max_len max_nest ≡ None
  pub program : p ≡ program_of body lines
