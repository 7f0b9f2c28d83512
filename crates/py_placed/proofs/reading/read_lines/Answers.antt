use Rattle.std.proofs.Common.{◌≡◌, length, arith}
use Rattle.std.proofs.lemmas.Result.{err_from_is_err_and}
use Rattle.spec_grammar.specs.HeaderReading.{read_line}
use Rattle.py_words.specs.Lines.{line_seen}
use Rattle.py_statements.proofs.Growth.{grows_then}
use Rattle.py_placed.proofs.Turns.{line_turn, begun_more, begun_stuck, begun_end, spans_more}
use Rattle.py_placed.proofs.reading.read_lines.Goals as goal

pub returns-in_err-placed-clause-read : goal.returns-in_err-placed-clause-read
returns-in_err-placed-clause-read c =
    let p = err_from_is_err_and c.from_residual.result c.from_residual.ensures.1 in
    let turn = line_turn c.args.lines.now c.loop-line.line-index c.line-item.result c.loop-line-test.true c.line-item.is in
    rw (p.1, p.2) (begun_stuck c.loop-line.into c.placed_line.new.into c.loop-line.list.items _ (line_seen c.line-item.result) (read_line c.line-item.result.words) _ _ _ c.loop-line.invariant.begun c.in_err-placed.ensures.read turn)

pub loop-line-preserved : goal.loop-line-preserved
loop-line-preserved c =
    let turn = line_turn c.args.lines.now c.loop-line.line-index c.line-item.result c.loop-line-test.true c.line-item.is in
    record {
      grown = grows_then _ _ _ c.loop-line.invariant.grown c.in_ok-placed.ensures.grown;
      begun = begun_more c.loop-line.into c.placed_line.new.into c.loop-line.list.items c.push.new.self.items c.in_ok-placed.placed (line_seen c.line-item.result) (read_line c.line-item.result.words) _ _ _ c.in_ok-placed.ensures.grown c.loop-line.invariant.grown.valid c.loop-line.invariant.begun c.in_ok-placed.ensures.read turn c.in_ok-push.ensures.items;
      spans = spans_more c.loop-line.list.items c.push.new.self.items c.in_ok-placed.placed c.args.lines.now c.loop-line.line-index c.line-item.result c.loop-line-test.true c.line-item.is c.loop-line.invariant.spans c.in_ok-placed.ensures.span c.in_ok-push.ensures.items;
    }

pub returns-clause-read : goal.returns-clause-read
returns-clause-read c =
    let last : c.loop-line.line-index ≡ length c.args.lines.now = omega arith in
    begun_end _ c.loop-line.list c.args.lines.now c.loop-line.line-index _ last c.loop-line.invariant.begun

pub returns-in_err-placed-clause-grown : goal.returns-in_err-placed-clause-grown
returns-in_err-placed-clause-grown c = grows_then _ _ _ c.loop-line.invariant.grown c.placed_line.ensures.grown

pub returns-in_err-push-clause-grown : goal.returns-in_err-push-clause-grown
returns-in_err-push-clause-grown c = grows_then _ _ _ c.loop-line.invariant.grown c.placed_line.ensures.grown
