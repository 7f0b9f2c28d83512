use Rattle.py_tokens.proofs.Scans.{all_refusals}
use Rattle.py_tokens.proofs.scanning.first_refusal.Goals as goal

pub returns : goal.returns
returns c = all_refusals _ _ _ _ _ _ _ _ c.requires.lines c.with_letters-told.ensures c.with_pieces-told.ensures c.in_ok-told.ensures c.with_mixed-told.ensures c.in_ok-told-2.ensures
