use Rattle.std.proofs.Common.{◌≡◌, drop, map}
use Rattle.spec_syntax.specs.TokenWords.{mark_in}
use Rattle.py_words.proofs.spellings.mark_in.Given as goal

abbrev pub invariant-loop-spelling : goal.invariant-loop-spelling
invariant-loop-spelling l = mark_in (map (λ x. (x.0.now, x.1)) l.table) l.letters ≡ mark_in (map (λ x. (x.0.now, x.1)) (drop l.spelling-index l.table)) l.letters
