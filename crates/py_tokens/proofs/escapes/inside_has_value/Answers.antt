use Rattle.std.proofs.Common.{sym, ap, ◌∙◌, is_some}
use Rattle.std.proofs.lemmas.List.{take_rest}
use Rattle.py_tokens.proofs.Insides.{unescaped_fails, unescaped_turns, unescaped_ends, some_before}
use Rattle.py_tokens.proofs.escapes.inside_has_value.Goals as goal

pub returns-in_default-first_given : goal.returns-in_default-first_given
returns-in_default-first_given c = sym (c.loop-letter.invariant ∙ ap is_some (unescaped_fails _ _ _ c.in-Some.ensures.cases.0 c.in_default-first_given.ensures.given))

pub loop-letter-preserved : goal.loop-letter-preserved
loop-letter-preserved c =
    c.loop-letter.invariant ∙ ap is_some (unescaped_turns _ _ _ _ _ _ c.in-Some.ensures.cases.0 c.in-Some-first_given.ensures.given (take_rest c.in-Some.after.now c.in-Some-first_given.passed)) ∙ some_before _ _

pub returns : goal.returns
returns c = sym (c.loop-letter.invariant ∙ ap is_some (unescaped_ends _ c.in_default.ensures.cases))
