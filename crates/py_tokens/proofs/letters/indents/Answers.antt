use Rattle.std.proofs.Common.{arith, sym, ◌∙◌, ◌≡◌, take, drop}
use Rattle.spec_tokens.specs.Letters.{run, is_blank}
use Rattle.py_tokens.specs.Steps.{first_line}
use Rattle.py_tokens.proofs.Lengths.{some_left, none_left}
use Rattle.py_tokens.proofs.Reading.{first_line-size, lines_turn, no_lines}
use Rattle.py_tokens.proofs.letters.indents.Goals as goal

pub loop-rest-smaller : goal.loop-rest-smaller
loop-rest-smaller c =
    let left = some_left c.loop-rest.rest.now (sym c.is_empty.ensures ∙ c.loop-rest-test.true) in
    let size = first_line-size c.loop-rest.rest.now left in
    omega (arith, c.line_length.ensures.line)

pub loop-rest-preserved : goal.loop-rest-preserved
loop-rest-preserved c =
    let rest = c.loop-rest.rest.now in
    let left = some_left rest (sym c.is_empty.ensures ∙ c.loop-rest-test.true) in
    let line : c.split_at.result.0.now ≡ take (first_line rest) rest = rw (← c.line_length.ensures.line) c.split_at.ensures.front in
    let after : c.split_at.result.1.now ≡ drop (first_line rest) rest = rw (← c.line_length.ensures.line) c.split_at.ensures.back in
    record {
      told = lines_turn (run is_blank) _ _ rest _ _ left line after (rw (← c.blank_run.ensures.run) c.in_ok-push.ensures.items) ∙ c.loop-rest.invariant.told;
      within = omega (arith, c.split_at.ensures.back_len, c.loop-rest.invariant.within);
    }

pub returns : goal.returns
returns c =
    let none = none_left c.loop-rest.rest.now (sym c.is_empty.ensures ∙ c.loop-rest-test.false) in
    sym (no_lines _ _ _ none) ∙ c.loop-rest.invariant.told
