use Rattle.std.proofs.Common.{◌≡◌, ℕ, List, [], length, map, slice_index_or, take}
use Rattle.spec_uses.specs.declared.Meaning.{Meaning}
use Rattle.py_tree.specs.Names.{text_of}
use Rattle.name_meanings.specs.Tables.{with_names}
use Rattle.name_meanings.proofs.table.set_all.Given as goal

abbrev pub invariant-loop-i : goal.invariant-loop-i
invariant-loop-i l = (length l.meanings.items ≡ length l.module.names)
    × ((f : List ℕ → Meaning) → l.fn.meanings.items ≡ map f l.module.names → l.meanings.items ≡ map (with_names (map (text_of l.module.names) (take l.i (slice_index_or l.module.lists l.list.index []))) l.meaning f) l.module.names)
