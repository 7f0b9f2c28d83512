use Rattle.std.proofs.Common.{arith, ◌≡◌, ◌∙◌, length, refl}
use Rattle.py_parser.proofs.LineTurns.{line_there, outline_turn, outline_end}
use Rattle.py_parser.proofs.phases.outlines.Goals as goal

pub form_of-requires : goal.form_of-requires
form_of-requires c = line_there _ _ c.requires.0 c.requires.1 _ _ c.loop-line-test.true c.line-item.is

pub loop-line-preserved : goal.loop-line-preserved
loop-line-preserved c ps h = c.loop-line.invariant ps h ∙ outline_turn _ _ ps h _ _ c.loop-line-test.true c.line-item.is _ _ _ refl refl c.form_of.ensures c.in_ok-push.ensures.items

pub returns : goal.returns
returns c ps h =
    let last : c.loop-line.line-index ≡ length c.args.lines.now = omega arith in
    c.loop-line.invariant ps h ∙ outline_end _ _ ps h _ last _
