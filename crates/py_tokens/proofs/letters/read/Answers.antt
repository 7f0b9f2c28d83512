use Rattle.std.proofs.Common.{arith, sym, ap, ◌∙◌, ◌+◌}
use Rattle.py_tokens.proofs.Reading.{read_turn, ends_turn, read_nothing, ends_nothing}
use Rattle.py_tokens.proofs.letters.read.Goals as goal

pub loop-letter-preserved : goal.loop-letter-preserved
loop-letter-preserved c =
    let e = c.in-Some.ensures.cases in
    let size = c.len_utf8-end.ensures.upper_bound in
    record {
      codes = read_turn _ _ _ _ _ e.0 c.in_ok-push_letter.ensures.codes ∙ c.loop-letter.invariant.codes;
      ends = ends_turn _ _ _ _ _ _ _ e.0 (ap (λ n. c.loop-letter.end + n) c.len_utf8-end.ensures.value) c.in_ok-push_letter.ensures.ends ∙ c.loop-letter.invariant.ends;
      room = omega (arith, c.loop-letter.invariant.room);
    }

pub returns-clause-codes : goal.returns-clause-codes
returns-clause-codes c = sym (read_nothing _ _ c.in_default.ensures.cases) ∙ c.loop-letter.invariant.codes

pub returns-clause-ends : goal.returns-clause-ends
returns-clause-ends c = sym (ends_nothing _ _ _ c.in_default.ensures.cases) ∙ c.loop-letter.invariant.ends
