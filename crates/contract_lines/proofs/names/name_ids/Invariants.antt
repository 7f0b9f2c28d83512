use Rattle.std.proofs.Common.{◌≡◌, length, map, take}
use Rattle.py_tree.specs.Names.{AreNamesBelow, text_of}
use Rattle.contract_lines.specs.Given.{Grows}
use Rattle.contract_lines.proofs.names.name_ids.Given as goal

abbrev pub invariant-loop-name : goal.invariant-loop-name
invariant-loop-name l = Grows l.fn.into l.into × AreNamesBelow (length l.into.names) l.ids.items × (map (text_of l.into.names) l.ids.items ≡ take l.name-index l.names)
