-- What a statement defines, by its names.
use Rattle.std.specs.Prelude.{◌<◌, length, Option, Some, None}
use Rattle.spec_names.specs.Members as members
use Rattle.py_tree.specs.Arena.{State}
use Rattle.py_tree.specs.Names.{text_of}
use Rattle.py_tree.specs.Stmts.{texts_of}
use Rattle.module_members.specs.declared.members.Member.{Member}
use Rattle.module_members.specs.declared.members.Member.TheVariants.{Unnamed, Imported, Constant, Function, Class}

-- what is defined, with the texts of its names
abbrev pub member_in : State → Member → members.Member
member_in m Unnamed = members.unnamed
member_in m (Imported l) = members.imported (texts_of m l)
member_in m (Constant n) = members.constant (text_of m.names n)
member_in m (Function n) = members.function (text_of m.names n)
member_in m (Class n) = members.class (text_of m.names n)

-- its names are there
abbrev pub AreNamesThere : State → Member → Type 0
AreNamesThere m Unnamed = Unit {0}
AreNamesThere m (Imported l) = l.index < length m.lists
AreNamesThere m (Constant n) = n.index < length m.names
AreNamesThere m (Function n) = n.index < length m.names
AreNamesThere m (Class n) = n.index < length m.names

abbrev pub IsThere : State → Option Member → Type 0
IsThere m None = Unit {0}
IsThere m (Some x) = AreNamesThere m x
