use Rattle.std.proofs.Common.{◌≡◌, map, take}
use Rattle.spec_uses.specs.Meanings.{given_as}
use Rattle.name_meanings.proofs.table.given_meanings.Given as goal

abbrev pub invariant-loop-index : goal.invariant-loop-index
invariant-loop-index l = l.meanings.items ≡ map given_as (take l.index l.module.names)
