-- What the fields of a program hold.
use Rattle.py_program.specs.declared.program.Program.TheInside.{Inside}
use Rattle.py_program.specs.Programs.{ProgramState, IsProgram}
use Rattle.py_program.specs.Named.{IsTable}

abbrev pub state_of : Inside → ProgramState
state_of p = record { source = p.«module»; functions = p.functions.items; classes = p.classes.items }

pub record IsValid (p : Inside) : Type 0 where
  pub program : IsProgram (state_of p)
  pub definitions : IsTable p.«module» p.definitions
