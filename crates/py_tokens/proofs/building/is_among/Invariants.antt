use Rattle.std.proofs.Common.{◌≡◌, drop}
use Rattle.std.specs.List.{list_any}
use Rattle.std.specs.Str.{bytes_eq}
use Rattle.py_tokens.proofs.building.is_among.Given as goal

abbrev pub invariant-loop-word : goal.invariant-loop-word
invariant-loop-word l = list_any (λ k. bytes_eq k.now l.letters) (drop l.word-index l.words) ≡ list_any (λ k. bytes_eq k.now l.letters) l.words
