use Rattle.std.proofs.Common.{take}
use Rattle.first_forms.specs.Groups.{AreGrouped}
use Rattle.first_forms.proofs.groups.grouped.Given as goal

abbrev pub invariant-loop-i : goal.invariant-loop-i
invariant-loop-i l = AreGrouped l.functions (take l.i l.contracts) l.groups.items
