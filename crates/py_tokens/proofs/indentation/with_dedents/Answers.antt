use Rattle.std.proofs.Common.{sym, ◌∙◌}
use Rattle.py_tokens.proofs.Indented.{from_next, from_end, dedents_turn, dedents_end}
use Rattle.py_tokens.proofs.indentation.with_dedents.Goals as goal

pub loop-line-preserved : goal.loop-line-preserved
loop-line-preserved c =
    let next = from_next c.args.lines.now c.loop-line.line-index c.loop-line-test.true in
    rw (c.with_fault-told.ensures, c.dedent_fault-fault.ensures, c.line_of.ensures, c.in_ok-enter.ensures.columns, c.leading-indent.ensures) (dedents_turn _ _ _ _ _ _ next) ∙ c.loop-line.invariant

pub returns : goal.returns
returns c = sym (dedents_end _ _ _ _ (from_end c.args.lines.now c.loop-line.line-index c.loop-line-test.false)) ∙ c.loop-line.invariant
