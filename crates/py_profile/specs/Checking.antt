-- What a check of a module answers.
use Rattle.std.specs.Prelude.{◌≡◌, ⊤, Option, Some, None, Result, Ok, Err}
use Rattle.spec_names.specs.declared.Refusal.{Refusal}
use Rattle.py_profile.specs.declared.errors.ProfileError.{ProfileError}
use Rattle.py_profile.specs.declared.errors.ProfileError.TheVariants.{Refused, NoMemory}

-- nothing is refused, or the error is the refusal that is told; a want of memory tells nothing
abbrev pub Answers : Result ⊤ ProfileError → Option Refusal → Type 0
Answers (Ok u) told = told ≡ None
Answers (Err (Refused n f)) told = told ≡ Some (record { line = n; fault = f })
Answers (Err NoMemory) told = ⊤
