use Rattle.std.proofs.Common.{arith, sym, ◌∙◌}
use Rattle.py_tokens.proofs.Runs.{digits_stop, digits_turn, digits_end}
use Rattle.py_tokens.proofs.numbers.digit_run.Goals as goal

pub returns-then-not-continues_digits-clause-run : goal.returns-then-not-continues_digits-clause-run
returns-then-not-continues_digits-clause-run c =
    sym (c.loop-letter.invariant.run ∙ digits_stop _ _ _ _ _ c.in-Some.ensures.cases.0 (sym c.continues_digits.ensures ∙ c.if-not-continues_digits.true))

pub loop-letter-preserved : goal.loop-letter-preserved
loop-letter-preserved c = record {
  run = c.loop-letter.invariant.run ∙ digits_turn _ _ _ _ _ c.in-Some.ensures.cases.0 (sym c.continues_digits.ensures ∙ c.if-not-continues_digits.false);
  place = omega (arith, c.loop-letter.invariant.place, c.in-Some.ensures.cases.1);
}

pub returns-clause-run : goal.returns-clause-run
returns-clause-run c = sym (c.loop-letter.invariant.run ∙ digits_end _ _ _ c.in_default.ensures.cases)
