use Rattle.std.proofs.Common.{◌≡◌, map}
use Rattle.py_words.specs.Seen.{seen}
use Rattle.py_words.proofs.Moving.{moved_front}
use Rattle.py_words.proofs.words.LineWords.move_to.Given as goal

abbrev pub invariant-loop-word : goal.invariant-loop-word
invariant-loop-word l = map seen l.word-items ≡ moved_front l.line l.word-index (map seen l.initial.word-items)
