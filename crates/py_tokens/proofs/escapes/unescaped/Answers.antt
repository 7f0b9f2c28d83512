use Rattle.std.proofs.Common.{sym, ap, ◌∙◌, Some, ◌++◌, List, ℕ}
use Rattle.std.specs.Option.{option_map}
use Rattle.std.proofs.lemmas.List.{take_rest, append-nil}
use Rattle.py_tokens.proofs.Insides.{unescaped_fails, unescaped_turns, unescaped_ends, given_behind}
use Rattle.py_tokens.proofs.escapes.unescaped.Goals as goal

pub returns-in_default-first_given : goal.returns-in_default-first_given
returns-in_default-first_given c =
    sym (c.loop-letter.invariant ∙ ap (option_map (λ (v : List ℕ). c.loop-letter.text ++ v)) (unescaped_fails _ _ _ c.in-Some.ensures.cases.0 c.in_default-first_given.ensures.given))

pub loop-letter-preserved : goal.loop-letter-preserved
loop-letter-preserved c =
    c.loop-letter.invariant
    ∙ ap (option_map (λ (v : List ℕ). c.loop-letter.text ++ v)) (unescaped_turns _ _ _ _ _ _ c.in-Some.ensures.cases.0 c.in-Some-first_given.ensures.given (take_rest c.in-Some.after.now c.in-Some-first_given.passed))
    ∙ given_behind _ _ _ _ c.in_ok-push_given.ensures

pub returns : goal.returns
returns c =
    sym (c.loop-letter.invariant ∙ ap (option_map (λ (v : List ℕ). c.loop-letter.text ++ v)) (unescaped_ends _ c.in_default.ensures.cases) ∙ ap Some (append-nil c.loop-letter.text))
