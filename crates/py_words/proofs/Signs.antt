-- What the grammar finds at a sign.
use Rattle.std.proofs.Common.{◌≡◌, ◌≢◌, List, [], ◌∷◌, Some, None, refl}
use Rattle.std.proofs.lemmas.Bool.{ne_eqb}
use Rattle.std.proofs.lemmas.Option.{some_pair_parts}
use Rattle.spec_grammar.specs.declared.Mark.{Mark}
use Rattle.spec_grammar.specs.Words.{Word, Name, Int, Str, Sign}
use Rattle.spec_grammar.specs.Marks.{code_of, sign_at}
use Rattle.py_words.specs.Found.{first_sign}

-- words that begin with another mark do not begin with the wanted one
pub sign_at_other : (m k : Mark) (s r : List Word) → first_sign s ≡ Some (k, r) → code_of m ≢ code_of k → sign_at m s ≡ None
sign_at_other m k [] r e other = cc
sign_at_other m k (Name n x ∷ s) r e other = cc
sign_at_other m k (Int n v ∷ s) r e other = cc
sign_at_other m k (Str p ∷ s) r e other = cc
sign_at_other m k (Sign n j ∷ s) r e other = let same = some_pair_parts j k s r e in rw (same.0, ne_eqb _ _ other) refl
