use Rattle.std.proofs.Common.{◌≡◌, take}
use Rattle.py_words.proofs.strings.text_of.Given as goal

abbrev pub invariant-loop-letter : goal.invariant-loop-letter
invariant-loop-letter l = l.text ≡ take l.letter-index l.letters
