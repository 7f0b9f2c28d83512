-- What a sink holds after a call, where it tells its bytes.
use Rattle.std.specs.Prelude.{◌≡◌, ℕ, List, ◌++◌, take, Option, Result, MatchResult}
use Rattle.std.specs.Io.KnownBytes.{append_known}

-- a write appended as many bytes of the piece as it answered, and nothing at an error
abbrev pub Takes : {E : Type 0} → Option (List ℕ) → Option (List ℕ) → List ℕ → Result ℕ E → Type 0
Takes old new piece result = MatchResult result (λ n. new ≡ append_known old (take n piece)) (λ _. new ≡ old)

-- a sink went from old to now by a front part of the whole, and the rest is still to come
pub record Went (old now : Option (List ℕ)) (rest whole : List ℕ) : Type 0 where
  pub piece : List ℕ
  pub parts : piece ++ rest ≡ whole
  pub appended : now ≡ append_known old piece

-- some front part of the whole was appended, maybe none or all of it
abbrev pub AppendsPart : Option (List ℕ) → Option (List ℕ) → List ℕ → Type 0
AppendsPart old new whole = (rest : List ℕ) × Went old new rest whole
