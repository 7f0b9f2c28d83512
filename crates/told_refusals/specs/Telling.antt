-- What is told behind more refusals.
use Rattle.std.specs.Prelude.{◌≡◌, List, ◌++◌, Option}
use Rattle.spec_names.specs.declared.Refusal.{Refusal}
use Rattle.spec_names.specs.Refusals.{first_refusal}

-- where one was told of the refusals before them, the other is told of them too
abbrev pub Tells : Option Refusal → Option Refusal → List Refusal → Type 0
Tells old new more = (rs : List Refusal) → old ≡ first_refusal rs → new ≡ first_refusal (rs ++ more)
