-- The parameters in a module, as those of a program.
use Rattle.std.specs.Prelude.{◌<◌, length}
use Rattle.spec_trees.specs.Stmt.{Parameter}
use Rattle.spec_programs.specs.Program.{Param}
use Rattle.py_tree.specs.declared.stmts.ParameterNode.{ParameterNode}
use Rattle.py_tree.specs.Arena.{State, shown_type}
use Rattle.py_tree.specs.Exprs.{IsBoundBelow}
use Rattle.py_tree.specs.Names.{text_of}
use Rattle.py_tree.specs.Stmts.{optional_expr}
use Rattle.py_tree.specs.Types.{IsTypeBelow, optional_type}

-- a parameter with its annotation as it stands
abbrev pub as_param : Parameter → Param
as_param p = record { name = p.name; type = p.annotation; default = p.default }

module _ (m : State) where
  abbrev pub parameter_tree : ParameterNode → Parameter
  parameter_tree x = record { name = text_of m.names x.name; annotation = optional_type (shown_type m) x.annotation; default = optional_expr m x.default }

  -- its parts are there
  abbrev pub IsParameterThere : ParameterNode → Type 0
  IsParameterThere x = (x.name.index < length m.names) × IsTypeBelow (length m.types) x.annotation × IsBoundBelow (length m.exprs) x.default
