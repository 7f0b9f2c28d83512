-- The error where a part on a line is not read.
use Rattle.std.specs.Prelude.{ℕ}
use Rattle.first_promises.specs.declared.errors.FormError.{FormError}
use Rattle.first_promises.specs.declared.errors.FormError.TheVariants as form
use Rattle.first_promises.specs.declared.errors.Unformed.{Unformed}
use Rattle.first_promises.specs.declared.errors.Unformed.TheVariants.{OtherForm, NoMemory}

abbrev pub error_at : ℕ → Unformed → FormError
error_at n OtherForm = form.NotBuilt n
error_at n NoMemory = form.NoMemory
