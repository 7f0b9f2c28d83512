use Rattle.std.proofs.Common.{sym}
use Rattle.checked_functions.proofs.Owners.{no_class}
use Rattle.checked_functions.proofs.checking.is_marked.Goals as goal

pub returns-in-None : goal.returns-in-None
returns-in-None c = λ os h. rw c.in-None.is (sym (no_class os))
