-- What a program holds, the program that it stands for, and what holds of every one.
use Rattle.std.specs.Prelude.{◌≡◌, List, map, slice_get, Some}
use Rattle.std.specs.List.{All}
use Rattle.spec_programs.specs.Program.{Program}
use Rattle.contract_owners.specs.declared.listing.FnId.{FnId}
use Rattle.contract_owners.specs.declared.listing.ClassId.{ClassId}
use Rattle.py_tree.specs.Arena.{State, IsModule}
use Rattle.py_program.specs.declared.entries.FnEntry.{FnEntry}
use Rattle.py_program.specs.declared.entries.ClassEntry.{ClassEntry}
use Rattle.py_program.specs.Entries.{IsClassThere, IsFunctionThere, class_in, function_in}

pub record ProgramState : Type 0 where
  -- the module
  pub source : State
  -- each in the order of numbers, from 0
  pub functions : List FnEntry
  pub classes : List ClassEntry

abbrev pub program_in : ProgramState → Program
program_in p = record { functions = map (function_in p.source) p.functions; classes = map (class_in p.source) p.classes }

-- what holds of every program
pub record IsProgram (p : ProgramState) : Type 0 where
  pub source : IsModule p.source
  pub functions : All (IsFunctionThere p.source) p.functions
  pub classes : All (IsClassThere p.source) p.classes

-- this holds of the entry of a function
abbrev pub OfFunction : ProgramState → FnId → (FnEntry → Type 0) → Type 0
OfFunction p f P = (e : FnEntry) → slice_get p.functions f.index ≡ Some e → P e

-- this holds of the entry of a class
abbrev pub OfClass : ProgramState → ClassId → (ClassEntry → Type 0) → Type 0
OfClass p c P = (e : ClassEntry) → slice_get p.classes c.index ≡ Some e → P e
