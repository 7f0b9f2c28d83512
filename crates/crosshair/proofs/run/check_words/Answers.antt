use Rattle.crosshair.proofs.Laws.{cut_none, ends_no_memory, some_all}
use Rattle.crosshair.proofs.run.check_words.Goals as goal

pub returns-in_err-settings-clause-ends : goal.returns-in_err-settings-clause-ends
returns-in_err-settings-clause-ends g c = some_all _ _ (λ total. ends_no_memory _ _ _ _ _ _ _ _ c.from_residual.ensures.1 (cut_none _ _ _))
