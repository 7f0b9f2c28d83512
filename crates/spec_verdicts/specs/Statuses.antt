-- What each exit status says of the files that are named.
use Rattle.std.specs.Prelude.{◌≡◌, ◌⊎◌, ◌≤◌, ◌<◌, ℕ, true, false, ⊤, List, [], ◌∷◌, length, Option, Some, None, Ok, Err}
use Rattle.std.specs.List.{list_any}
use Rattle.xh_outside.specs.Reading.{content_of, next_left}
use Rattle.spec_first_trees.specs.Bounds.{Bounds}
use Rattle.spec_first_trees.specs.Program.{Program}
use Rattle.spec_admission.specs.Admission.{Refusal, admit}
use Rattle.spec_verdicts.specs.Report.{has_error}
use Rattle.spec_verdicts.specs.declared.TheConstants.{READ_LIMIT}

-- the file of this name is admitted under these bounds as a program
pub record IsAdmitted (bounds : Bounds) (files : List (List ℕ × List ℕ)) (name : List ℕ) (p : Program) : Type 0 where
  pub content : List ℕ
  pub found : content_of files name ≡ Some content
  pub short : length content ≤ READ_LIMIT
  pub admitted : admit bounds content ≡ Ok p

-- the file is admitted, and no condition of it has an error
pub record Passes (bounds : Bounds) (files : List (List ℕ × List ℕ)) (name : List ℕ) : Type 0 where
  pub program : Program
  pub admitted : IsAdmitted bounds files name program
  pub calm : list_any (has_error bounds) program.functions ≡ false

-- the file is admitted, and some condition of it has an error
pub record Fails (bounds : Bounds) (files : List (List ℕ × List ℕ)) (name : List ℕ) : Type 0 where
  pub program : Program
  pub admitted : IsAdmitted bounds files name program
  pub wrong : list_any (has_error bounds) program.functions ≡ true

-- the file is too long, or its content is refused at a line
pub record IsRefused (bounds : Bounds) (files : List (List ℕ × List ℕ)) (name : List ℕ) : Type 0 where
  pub content : List ℕ
  pub found : content_of files name ≡ Some content
  pub refused : (READ_LIMIT < length content) ⊎ ((r : Refusal) × (admit bounds content ≡ Err r))

-- P holds of each target
abbrev pub EachTarget : (List ℕ → Type 0) → List (List ℕ) → Type 0
EachTarget P [] = ⊤
EachTarget P (name ∷ names) = P name × EachTarget P names

-- P holds of some target
abbrev pub SomeTarget : (List ℕ → Type 0) → List (List ℕ) → Type 0
SomeTarget P [] = ⊥
SomeTarget P (name ∷ names) = P name ⊎ SomeTarget P names

-- The read of some target fails: the files do not hold its name, or no read is left before the one that is made to fail.
abbrev pub SomeReadFails : List (List ℕ × List ℕ) → List (List ℕ) → Option ℕ → Type 0
SomeReadFails files [] left = ⊥
SomeReadFails files (name ∷ names) left = (content_of files name ≡ None) ⊎ ((left ≡ Some 0) ⊎ SomeReadFails files names (next_left left))
