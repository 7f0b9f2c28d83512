use Rattle.std.proofs.Common.{ℕ, Bool, ◌≡◌, List, [], ◌∷◌, Option}
use Rattle.std.specs.Char.{char_set_contains}
use Rattle.std.specs.Str.Pattern.{FindsPrefixBy}
use Rattle.spec_tokens.specs.Letters.{is_blank}
use Rattle.py_parser.proofs.Fronts.{blanks, trimmed}
use Rattle.py_parser.proofs.texts.unindented.Goals as goal

pub returns-clause-letters : goal.returns-clause-letters
returns-clause-letters c =
    trimmed
    (λ (s : List ℕ) (o : Option ℕ). (k : ℕ → Bool) → ((d : ℕ) → char_set_contains (32 ∷ 9 ∷ []) d ≡ k d) → FindsPrefixBy k s o)
    (λ s o h. h is_blank blanks) _ _ c.utf8.text c.trim_start_matches.ensures.matches
