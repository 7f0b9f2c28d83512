use Rattle.std.proofs.Common.{sym, ◌∙◌}
use Rattle.py_tokens.proofs.Logical.{brackets_turn, brackets_end}
use Rattle.py_tokens.proofs.lines.with_brackets.Goals as goal

pub loop-piece-preserved : goal.loop-piece-preserved
loop-piece-preserved c =
    rw (c.with_fault-told.ensures, c.bracket_fault.ensures, c.in_ok-pass.ensures) (brackets_turn _ _ _ _ _ c.in-Some.ensures.cases.0) ∙ c.loop-piece.invariant

pub returns : goal.returns
returns c = c.with_left_open.ensures ∙ sym (brackets_end _ _ _ c.in_default.ensures.cases) ∙ c.loop-piece.invariant
