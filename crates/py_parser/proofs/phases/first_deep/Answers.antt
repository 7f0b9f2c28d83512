use Rattle.std.proofs.Common.{arith, ◌≡◌, ◌∙◌, length, sym}
use Rattle.py_parser.proofs.LineTurns.{line_there, deep_turn, deep_found, deep_end}
use Rattle.py_parser.proofs.phases.first_deep.Goals as goal

pub is_deep-requires : goal.is_deep-requires
is_deep-requires c = line_there _ _ c.requires.0 c.requires.1 _ _ c.loop-line-test.true c.line-item.is

pub loop-line-preserved : goal.loop-line-preserved
loop-line-preserved c ps h = sym (deep_turn _ _ ps h _ _ c.loop-line-test.true c.line-item.is _ c.is_deep.ensures c.if-is_deep.false) ∙ c.loop-line.invariant ps h

pub returns-then-is_deep : goal.returns-then-is_deep
returns-then-is_deep c ps h = sym (deep_found _ _ ps h _ _ c.loop-line-test.true c.line-item.is _ c.is_deep.ensures c.if-is_deep.true) ∙ c.loop-line.invariant ps h

pub returns : goal.returns
returns c ps h =
    let last : c.loop-line.line-index ≡ length c.args.lines.now = omega arith in
    sym (deep_end _ _ ps h _ last) ∙ c.loop-line.invariant ps h
