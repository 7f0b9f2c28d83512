use Rattle.std.proofs.Common.{◌≡◌, drop}
use Rattle.std.specs.Str.{bytes_eq}
use Rattle.module_members.proofs.Spelling.{spelled_by}
use Rattle.module_members.proofs.main_test.are_spelled.Given as goal

abbrev pub invariant-loop-part : goal.invariant-loop-part
invariant-loop-part l = bytes_eq l.rest (spelled_by (drop l.part-index l.parts)) ≡ bytes_eq l.word (spelled_by l.parts)
