use Rattle.std.proofs.Common.{◌∙◌}
use Rattle.py_words.proofs.Literals.{strings_more}
use Rattle.py_words.proofs.words.LineWords.strings.Goals as goal

pub loop-parts-preserved : goal.loop-parts-preserved
loop-parts-preserved c =
    strings_more c.loop-parts.parts.items _ c.in-Some.part _ _ c.in_ok-push.ensures.items (rw c.in-Some.is at c.in_ok-part.ensures) ∙ c.loop-parts.invariant
