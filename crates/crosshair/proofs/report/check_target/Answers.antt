use Rattle.crosshair.proofs.Laws.{some_all, cut_none}
use Rattle.crosshair.proofs.report.check_target.Goals as goal

pub returns-in-Err-NoMemory-clause-ends : goal.returns-in-Err-NoMemory-clause-ends
returns-in-Err-NoMemory-clause-ends g c = some_all _ _ (λ contents. cut_none _ _ _)
