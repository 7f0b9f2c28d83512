-- What the fields of a module hold.
use Rattle.std.specs.Prelude.{map, string_bytes}
use Rattle.py_tree.specs.declared.module.Module.TheInside.{Inside}
use Rattle.py_tree.specs.Arena.{State, IsModule}

abbrev pub state_of : Inside → State
state_of m = record { names = map string_bytes m.names.keys; lists = map (λ v. v.items) m.lists.items; exprs = m.exprs.items; types = m.types.items; stmts = m.stmts.items; tops = m.tops.items }

abbrev pub IsValid : Inside → Type 0
IsValid m = IsModule (state_of m)
