use Rattle.std.proofs.Common.{sym, ◌∙◌}
use Rattle.py_words.proofs.Signs.{sign_at_other}
use Rattle.py_words.proofs.words.LineWords.sign.Goals as goal

pub returns : goal.returns
returns c = sign_at_other _ _ _ _ c.in_ok-found.ensures (λ same. c.if-code.false (c.code.ensures ∙ same ∙ sym c.code-2.ensures))
