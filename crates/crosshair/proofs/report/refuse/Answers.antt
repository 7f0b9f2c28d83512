use Rattle.std.proofs.Common.{rules}
use Rattle.crosshair.proofs.Laws.{cut_none, cut_err, ends_no_memory, ends_write_fault}
use Rattle.crosshair.proofs.report.refuse.Goals as goal

pub returns-in_err-line-clause-ends : goal.returns-in_err-line-clause-ends
returns-in_err-line-clause-ends g c = ends_no_memory _ _ _ _ _ _ _ _ c.from_residual.ensures.1 (cut_none _ _ _)

pub returns-in_err-write_all-clause-ends : goal.returns-in_err-write_all-clause-ends
returns-in_err-write_all-clause-ends g c =
    ends_write_fault _ _ _ _ _ _ _ _ c.from_residual-in_err-write_all.ensures.1 (cut_err _ _ _ _ _ c.in_err-write_all.ensures.part (search rules))
