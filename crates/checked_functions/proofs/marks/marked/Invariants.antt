use Rattle.std.proofs.Common.{take}
use Rattle.checked_functions.specs.Owning.{Mark, owners_of}
use Rattle.checked_functions.proofs.marks.marked.Given as goal

-- the owners of the contract lines so far are marked
abbrev pub invariant-loop-i : goal.invariant-loop-i
invariant-loop-i l = Mark l.functions l.classes (owners_of (take l.i l.contracts)) l.marks
