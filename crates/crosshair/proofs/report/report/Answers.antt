use Rattle.crosshair.proofs.Laws.{cut_none}
use Rattle.crosshair.proofs.report.report.Goals as goal

pub returns-in-Err-NoMemory-clause-ends : goal.returns-in-Err-NoMemory-clause-ends
returns-in-Err-NoMemory-clause-ends g c = cut_none _ _ _
