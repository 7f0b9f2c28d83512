use Rattle.std.proofs.Common.{sym, ◌∙◌}
use Rattle.py_tokens.proofs.Indented.{from_next, from_end, mixed_turn, mixed_end}
use Rattle.py_tokens.proofs.indentation.with_mixed.Goals as goal

pub loop-line-preserved : goal.loop-line-preserved
loop-line-preserved c =
    let next = from_next c.args.lines.now c.loop-line.line-index c.loop-line-test.true in
    rw (c.with_fault-told.ensures, c.mixed_fault.ensures, c.line_of.ensures, c.unit_behind-unit.ensures, c.leading-leading.ensures) (mixed_turn _ _ _ _ _ _ next) ∙ c.loop-line.invariant

pub returns : goal.returns
returns c = sym (mixed_end _ _ _ _ (from_end c.args.lines.now c.loop-line.line-index c.loop-line-test.false)) ∙ c.loop-line.invariant
