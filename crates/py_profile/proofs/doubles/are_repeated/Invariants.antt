use Rattle.std.proofs.Common.{◌≡◌, ℕ, List, length}
use Rattle.name_sets.specs.Marks.{marks_of}
use Rattle.py_profile.proofs.Listed.{RepeatedTo}
use Rattle.py_profile.proofs.doubles.are_repeated.Given as goal

abbrev pub invariant-loop-name : goal.invariant-loop-name
invariant-loop-name l = ((xs : List (List ℕ)) → l.fn.earlier ≡ marks_of xs l.module.names → RepeatedTo l.module.names l.names xs l.earlier l.is_repeated l.name-index) × (length l.earlier ≡ length l.module.names)
