use Rattle.std.proofs.Common.{arith, sym, ◌∙◌}
use Rattle.py_tokens.proofs.Earlier.{letters_bad, letters_feed, letters_pass, letters_end}
use Rattle.py_tokens.proofs.Lengths.{is_other}
use Rattle.py_tokens.proofs.refusals.with_letters.Goals as goal

pub loop-letter-preserved-then-is_bad : goal.loop-letter-preserved-then-is_bad
loop-letter-preserved-then-is_bad c = record {
  told = rw c.earlier-told.ensures (letters_bad _ _ _ _ _ c.in-Some.ensures.cases.0 (sym c.is_bad.ensures ∙ c.if-is_bad.true)) ∙ c.loop-letter.invariant.told;
  line = omega (arith, c.loop-letter.invariant.line, c.in-Some.ensures.cases.1);
}

pub loop-letter-preserved-then-letter-eq10 : goal.loop-letter-preserved-then-letter-eq10
loop-letter-preserved-then-letter-eq10 c = record {
  told = letters_feed _ _ _ _ _ c.in-Some.ensures.cases.0 (sym c.is_bad.ensures ∙ c.if-is_bad.false) c.if-letter-eq10.true ∙ c.loop-letter.invariant.told;
  line = omega (arith, c.loop-letter.invariant.line, c.in-Some.ensures.cases.1);
}

pub loop-letter-preserved : goal.loop-letter-preserved
loop-letter-preserved c = record {
  told = letters_pass _ _ _ _ _ c.in-Some.ensures.cases.0 (sym c.is_bad.ensures ∙ c.if-is_bad.false) (is_other _ _ c.if-letter-eq10.false) ∙ c.loop-letter.invariant.told;
  line = omega (arith, c.loop-letter.invariant.line, c.in-Some.ensures.cases.1);
}

pub returns : goal.returns
returns c = sym (letters_end _ _ _ c.in_default.ensures.cases) ∙ c.loop-letter.invariant.told
