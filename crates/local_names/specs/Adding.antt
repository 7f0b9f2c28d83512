-- Names that are added to a set.
use Rattle.std.specs.Prelude.{◌≡◌, ℕ, Bool, List, length}
use Rattle.spec_names.specs.Defined.{onto}
use Rattle.name_sets.specs.Marks.{marks_of}

-- the set of these names of a module has more names
pub record Adds (names : List (List ℕ)) (old new : List Bool) (more : List (List ℕ)) : Type 0 where
  pub size : length new ≡ length names
  pub set : (xs : List (List ℕ)) → old ≡ marks_of xs names → new ≡ marks_of (onto xs more) names
