use Rattle.std.proofs.Common.{sym, ◌∙◌}
use Rattle.py_tokens.proofs.Earlier.{pieces_turn, pieces_end}
use Rattle.py_tokens.proofs.refusals.with_pieces.Goals as goal

pub loop-piece-preserved : goal.loop-piece-preserved
loop-piece-preserved c =
    rw (c.with_fault-told.ensures, c.fault_of-fault.ensures, c.spelling.ensures, c.from_place.ensures) (pieces_turn _ _ _ _ _ c.in-Some.ensures.cases.0) ∙ c.loop-piece.invariant

pub returns : goal.returns
returns c = sym (pieces_end _ _ _ c.in_default.ensures.cases) ∙ c.loop-piece.invariant
