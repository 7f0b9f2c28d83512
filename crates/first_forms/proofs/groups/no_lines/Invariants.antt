use Rattle.std.proofs.Common.{[]}
use Rattle.first_forms.specs.Groups.{AreGrouped}
use Rattle.first_forms.proofs.groups.no_lines.Given as goal

abbrev pub invariant-loop : goal.invariant-loop
invariant-loop l = AreGrouped l.counter [] l.groups.items
