-- What holds of each text that is cut into tokens.
use Rattle.std.specs.Prelude.{◌≡◌, ℕ, zero, suc, ◌-◌, ◌^◌, ◌<◌, ◌≤◌, true, List, [], ◌∷◌, length, take, drop, map, get_or}
use Rattle.std.specs.List.{All}
use Rattle.std.specs.Option.{is_some}
use Rattle.std.specs.Str.{IsCharBoundary, encode_utf8_all}
use Rattle.spec_tokens.specs.declared.Lexeme.{Lexeme}
use Rattle.spec_tokens.specs.declared.TokenKind.{TokenKind}
use Rattle.spec_tokens.specs.declared.TokenKind.TheVariants.{Int, Str, Indent, Dedent, End}
use Rattle.spec_tokens.specs.Values.{integer_value, text_value}
use Rattle.spec_tokens.specs.Tokens.{Scan}

-- the letters of a token
abbrev pub spelled : List ℕ → Lexeme → List ℕ
spelled letters t = take (t.end - t.start) (drop t.start letters)

-- Tokens stand in order between two places: each starts where the one before it ends, or behind that.
abbrev pub AreOrdered : ℕ → ℕ → List Lexeme → Type 0
AreOrdered from to [] = from ≤ to
AreOrdered from to (t ∷ ts) = (from ≤ t.start) × (t.start ≤ t.end) × AreOrdered t.end to ts

-- the kinds of tokens
abbrev pub kinds : List Lexeme → List TokenKind
kinds ts = map (λ t. t.kind) ts

-- The kinds of tokens behind n Indents that are open: each Dedent closes one, and the End stands last, where none is open.
abbrev pub AreNested : ℕ → List TokenKind → Type 0
AreNested n [] = ⊥
AreNested n (Indent ∷ ks) = AreNested (suc n) ks
AreNested zero (Dedent ∷ ks) = ⊥
AreNested (suc n) (Dedent ∷ ks) = AreNested n ks
AreNested n (End ∷ ks) = (n ≡ 0) × (ks ≡ [])
AreNested n (k ∷ ks) = AreNested n ks

-- where the letter of a number begins, or the last letter ends, in bytes of the text
abbrev pub place : Scan → ℕ → ℕ
place s zero = s.first
place s (suc j) = get_or s.ends j 0

-- The tokens of a text are well formed: they stand in order, are nested and have their values, and the text may be sliced where letters begin and end.
pub record IsWellFormed (text : List ℕ) (s : Scan) : Type 0 where
  -- the tokens stand in order within the letters
  pub ordered : AreOrdered 0 (length s.letters) s.tokens
  -- each Dedent closes an Indent, and the End stands last
  pub nested : AreNested 0 (kinds s.tokens)
  -- each integer is below 2^127
  pub integers : All (λ t. t.kind ≡ Int → integer_value (spelled s.letters t) < 2 ^ 127) s.tokens
  -- each string has a value
  pub strings : All (λ t. t.kind ≡ Str → is_some (text_value (spelled s.letters t)) ≡ true) s.tokens
  -- each letter has a place where it ends
  pub places : length s.ends ≡ length s.letters
  -- a later place is not before an earlier one
  pub rising : (i j : ℕ) → i ≤ j → j ≤ length s.letters → place s i ≤ place s j
  -- each letter begins and ends between characters of the text
  pub boundaries : (j : ℕ) → j ≤ length s.letters → IsCharBoundary (encode_utf8_all text) (place s j)
