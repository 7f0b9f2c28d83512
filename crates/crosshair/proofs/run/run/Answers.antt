use Rattle.crosshair.proofs.ExitRows.{zero_row, one_row, two_row, four_row}
use Rattle.crosshair.proofs.run.run.Goals as goal

pub returns-clause-clean : goal.returns-clause-clean
returns-clause-clean g c = zero_row _ _ _ _ _ _ _ _ _ _ _ c.check_words.ensures.ends c.status_of.ensures

pub returns-clause-failing : goal.returns-clause-failing
returns-clause-failing g c = one_row _ _ _ _ _ _ _ _ _ _ _ c.check_words.ensures.ends c.status_of.ensures

pub returns-clause-refusing : goal.returns-clause-refusing
returns-clause-refusing g c = two_row _ _ _ _ _ _ _ _ _ _ _ c.check_words.ensures.ends c.status_of.ensures

pub returns-clause-unread : goal.returns-clause-unread
returns-clause-unread g c = four_row _ _ _ _ _ _ _ _ _ _ _ c.check_words.ensures.ends c.status_of.ensures
