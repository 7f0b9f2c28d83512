use Rattle.std.proofs.Common.{arith, sym, ap, ◌∙◌, ◌+◌, refl}
use Rattle.py_tokens.proofs.Lengths.{is_equal, is_other}
use Rattle.py_tokens.proofs.Runs.{tail_closes, tail_escapes, tail_breaks, tail_ends, tail_turns, tail_runs_out}
use Rattle.py_tokens.proofs.strings.tail.Goals as goal

pub returns-then-starts_with_quotes-clause-tail : goal.returns-then-starts_with_quotes-clause-tail
returns-then-starts_with_quotes-clause-tail c =
    sym (sym c.loop-letter.invariant.tail ∙ tail_closes _ _ _ _ _ (sym c.starts_with_quotes.ensures ∙ c.if-starts_with_quotes.true) (ap (λ n. c.loop-letter.passed + n) (c.quote_count.ensures.count c.args.quote)))

pub returns-in_default-split_first-clause-tail : goal.returns-in_default-split_first-clause-tail
returns-in_default-split_first-clause-tail c =
    sym (sym c.loop-letter.invariant.tail ∙ tail_breaks _ _ _ _ _ _ c.in-Some.ensures.cases.0 c.in_default-split_first.ensures.cases (sym c.starts_with_quotes.ensures ∙ c.if-starts_with_quotes.false) (is_equal _ _ c.if-letter-eq92.true))

pub loop-letter-preserved-then-letter-eq92 : goal.loop-letter-preserved-then-letter-eq92
loop-letter-preserved-then-letter-eq92 c = record {
  tail = tail_escapes _ _ _ _ _ _ _ _ _ c.in-Some.ensures.cases.0 c.in-Some-split_first.ensures.cases.0 (sym c.starts_with_quotes.ensures ∙ c.if-starts_with_quotes.false) (is_equal _ _ c.if-letter-eq92.true) refl ∙ c.loop-letter.invariant.tail;
  place = omega (arith, c.loop-letter.invariant.place, c.in-Some.ensures.cases.1, c.in-Some-split_first.ensures.cases.1);
}

pub returns-then-not-may_hold-clause-tail : goal.returns-then-not-may_hold-clause-tail
returns-then-not-may_hold-clause-tail c =
    sym (sym c.loop-letter.invariant.tail ∙ tail_ends _ _ _ _ _ _ c.in-Some.ensures.cases.0 (sym c.starts_with_quotes.ensures ∙ c.if-starts_with_quotes.false) (is_other _ _ c.if-letter-eq92.false) (sym c.may_hold.ensures ∙ c.if-not-may_hold.true))

pub loop-letter-preserved : goal.loop-letter-preserved
loop-letter-preserved c = record {
  tail = tail_turns _ _ _ _ _ _ _ c.in-Some.ensures.cases.0 (sym c.starts_with_quotes.ensures ∙ c.if-starts_with_quotes.false) (is_other _ _ c.if-letter-eq92.false) (sym c.may_hold.ensures ∙ c.if-not-may_hold.false) refl ∙ c.loop-letter.invariant.tail;
  place = omega (arith, c.loop-letter.invariant.place, c.in-Some.ensures.cases.1);
}

pub returns-clause-tail : goal.returns-clause-tail
returns-clause-tail c = sym (sym c.loop-letter.invariant.tail ∙ tail_runs_out _ _ _ _ c.in_default.ensures.cases)
