use Rattle.std.proofs.Common.{sym, ap, ◌∙◌, ◌^◌}
use Rattle.py_tokens.specs.Given.{below}
use Rattle.py_tokens.proofs.Lengths.{is_equal, is_other}
use Rattle.py_tokens.proofs.Digits.{below_some, below_is, value_turns, value_skips, value_ends, value_too_big}
use Rattle.py_tokens.proofs.values.digits_value.Goals as goal

pub returns-in_err-value : goal.returns-in_err-value
returns-in_err-value c =
    let big = value_too_big _ _ _ _ _ _ c.in-Some.ensures.cases.0 (is_other _ _ c.if-letter-ne95.true) c.requires (sym c.in_err-value.was ∙ c.with_digit.ensures) in
    c.from_residual.ensures ∙ sym (ap (below (2 ^ 127)) c.loop-letter.invariant.value ∙ big)

pub loop-letter-preserved-in_ok-value : goal.loop-letter-preserved-in_ok-value
loop-letter-preserved-in_ok-value c =
    let found = below_some _ _ _ (sym c.in_ok-value.was ∙ c.with_digit.ensures) in
    record {
      value = c.loop-letter.invariant.value ∙ value_turns _ _ _ _ _ _ c.in-Some.ensures.cases.0 (is_other _ _ c.if-letter-ne95.true) found.0;
      small = found.1;
    }

pub loop-letter-preserved : goal.loop-letter-preserved
loop-letter-preserved c = record {
  value = c.loop-letter.invariant.value ∙ value_skips _ _ _ _ _ c.in-Some.ensures.cases.0 (is_equal _ _ c.if-letter-ne95.false);
  small = c.loop-letter.invariant.small;
}

pub returns : goal.returns
returns c =
    let value = c.loop-letter.invariant.value ∙ value_ends _ _ _ c.in_default.ensures.cases in
    sym (ap (below (2 ^ 127)) value ∙ below_is _ _ c.loop-letter.invariant.small)
