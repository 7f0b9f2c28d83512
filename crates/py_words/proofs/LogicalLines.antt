-- The logical lines of tokens, as they are read one token after the other.
use Rattle.std.proofs.Common.{◌≡◌, ◌≢◌, ℕ, zero, suc, ◌+◌, ◌-◌, List, [], ◌∷◌, ◌++◌, drop, map, Option, Some, None, refl, sym, ap, ◌∙◌, add-one, append_assoc, arith}
use Rattle.std.proofs.lemmas.List.{map-append, append-nil}
use Rattle.std.specs.Prelude.{slice_get}
use Rattle.std.specs.Option.{option_map}
use Rattle.spec_tokens.specs.declared.Lexeme.{Lexeme}
use Rattle.spec_tokens.specs.declared.TokenKind.{TokenKind}
use Rattle.spec_tokens.specs.declared.TokenKind.TheVariants as kind
use Rattle.spec_tokens.specs.Tokens.{Scan}
use Rattle.spec_grammar.specs.Words.{Word}
use Rattle.spec_syntax.specs.TokenWords.{word_of}
use Rattle.spec_syntax.specs.Lines.{WordLine, begun_with, line_behind, lines_from}
use Rattle.py_tokens.specs.declared.tokens.Token.{Token}
use Rattle.py_tokens.specs.Scanned.{Scanned, token_at}
use Rattle.py_words.specs.declared.lines.WordLine as kept
use Rattle.py_words.specs.Lines.{line_seen}
use Rattle.py_words.proofs.TokenKinds.{token_of}

-- lines of which the first has these words before its own
abbrev pub begun : List Word → List WordLine → List WordLine
begun ws [] = []
begun ws (l ∷ ls) = record { depth = l.depth; words = ws ++ l.words } ∷ ls

-- all lines, where some are read, words of the next one too, and the tokens from a place on are left
abbrev pub read_to : Scan → List WordLine → List Word → ℕ → ℕ → List WordLine
read_to s lines words depth place = lines ++ begun words (lines_from s depth (drop place s.tokens))

-- ---- words of the first line

begun_more : (ws : List Word) (w : Word) (ls : List WordLine) → begun (ws ++ w ∷ []) ls ≡ begun ws (begun_with w ls)
begun_more ws w [] = refl
begun_more ws w (l ∷ ls) = ap (λ (vs : List Word). record { depth = l.depth; words = vs } ∷ ls) (append_assoc ws (w ∷ []) l.words)

begun_none : (ls : List WordLine) → begun [] ls ≡ ls
begun_none [] = refl
begun_none (l ∷ ls) = refl

-- ---- the token at a place

split_at : (ts : List Lexeme) (i : ℕ) (x : Lexeme) → slice_get ts i ≡ Some x → drop i ts ≡ x ∷ drop (i + 1) ts
split_at [] i x e = absurd cc
split_at (y ∷ ts) zero x e = let same : y ≡ x = cc in rw same refl
split_at (y ∷ ts) (suc i) x e = let later = split_at ts i x e in simp add-one (simp add-one at later)

none_at : (ts : List Lexeme) (i : ℕ) → slice_get ts i ≡ None → drop i ts ≡ []
none_at [] zero e = refl
none_at [] (suc i) e = refl
none_at (y ∷ ts) zero e = absurd cc
none_at (y ∷ ts) (suc i) e = none_at ts i e

-- the lexeme of a token
pub record IsAt (s : Scan) (i : ℕ) (k : TokenKind) : Type 0 where
  pub lexeme : Lexeme
  pub found : slice_get s.tokens i ≡ Some lexeme
  pub kind : lexeme.kind ≡ k

lexeme_at : (s : Scan) (i : ℕ) (t : Token) (o : Option Lexeme) → o ≡ slice_get s.tokens i → Some t ≡ option_map (token_of s) o → IsAt s i t.kind
lexeme_at s i t None is token = absurd cc
lexeme_at s i t (Some x) is token = record { lexeme = x; found = sym is; kind = cc }

pub is_at : (s : Scanned) (i : ℕ) (t : Token) (k : TokenKind) → Some t ≡ token_at s i → t.kind ≡ k → IsAt s.scan i k
is_at s i t k token kind = rw (← kind) (lexeme_at s.scan i t (slice_get s.scan.tokens i) refl token)

-- the lines of the tokens from a place on, by the token there
lines_at : (s : Scan) (d i : ℕ) (k : TokenKind) (at : IsAt s i k) → lines_from s d (drop i s.tokens) ≡ line_behind k d (word_of s at.lexeme) (λ n. lines_from s n (drop (i + 1) s.tokens))
unfolding lines_from
lines_at s d i k at = rw (split_at s.tokens i at.lexeme at.found) (rw (at.kind) refl)

-- the word of the token at a place
word_at : (s : Scan) (i : ℕ) (k : TokenKind) (at : IsAt s i k) (w : Word) → option_map (word_of s) (slice_get s.tokens i) ≡ Some w → word_of s at.lexeme ≡ w
word_at s i k at w word = let e : Some (word_of s at.lexeme) ≡ Some w = rw at.found at word in cc

-- ---- a token more

module _ (s : Scan) (ls : List WordLine) (ws : List Word) (d i : ℕ) where
  -- what is read on from a place, where the tokens from there on give these lines
  same_lines : (ms ns : List WordLine) → ms ≡ ns → ls ++ begun ws ms ≡ ls ++ begun ws ns
  same_lines ms ns e = rw e refl

  pub indent_read : IsAt s i kind.Indent → read_to s ls ws (d + 1) (i + 1) ≡ read_to s ls ws d i
  indent_read at = let next : d + 1 ≡ suc d = omega arith in rw next (same_lines _ _ (sym (lines_at s d i kind.Indent at)))

  pub dedent_read : IsAt s i kind.Dedent → read_to s ls ws (d - 1) (i + 1) ≡ read_to s ls ws d i
  dedent_read at = same_lines _ _ (sym (lines_at s d i kind.Dedent at))

  pub newline_read : IsAt s i kind.Newline → read_to s (ls ++ record { depth = d; words = ws } ∷ []) [] d (i + 1) ≡ read_to s ls ws d i
  newline_read at = rw (lines_at s d i kind.Newline at) (rw (begun_none (lines_from s d (drop (i + 1) s.tokens)), append-nil ws) (append_assoc ls _ _))

  pub end_read : IsAt s i kind.End → read_to s ls ws d i ≡ ls
  end_read at = rw (lines_at s d i kind.End at) (append-nil ls)

  pub past_read : slice_get s.tokens i ≡ None → read_to s ls ws d i ≡ ls
  unfolding lines_from
  past_read none = rw (none_at s.tokens i none) (append-nil ls)

  -- a word before the lines of the tokens behind it
  begun_read : (w : Word) → lines_from s d (drop i s.tokens) ≡ begun_with w (lines_from s d (drop (i + 1) s.tokens)) → read_to s ls (ws ++ w ∷ []) d (i + 1) ≡ read_to s ls ws d i
  begun_read w e = rw (e, begun_more ws w (lines_from s d (drop (i + 1) s.tokens))) refl

  -- a token of another kind is a word
  pub word_read : (k : TokenKind) (w : Word) → IsAt s i k → k ≢ kind.Indent → k ≢ kind.Dedent → k ≢ kind.Newline → k ≢ kind.End → option_map (word_of s) (slice_get s.tokens i) ≡ Some w → read_to s ls (ws ++ w ∷ []) d (i + 1) ≡ read_to s ls ws d i
  word_read k w at no_indent no_dedent no_newline no_end word =
      begun_read w (lines_at s d i k at ∙ rw (word_at s i k at w word) (by_kind k no_indent no_dedent no_newline no_end))
    where
      by_kind : (k : TokenKind) → k ≢ kind.Indent → k ≢ kind.Dedent → k ≢ kind.Newline → k ≢ kind.End → line_behind k d w (λ n. lines_from s n (drop (i + 1) s.tokens)) ≡ begun_with w (lines_from s d (drop (i + 1) s.tokens))
      by_kind kind.Name a b e f = refl
      by_kind kind.Keyword a b e f = refl
      by_kind kind.Int a b e f = refl
      by_kind kind.Str a b e f = refl
      by_kind kind.Op a b e f = refl
      by_kind kind.Newline a b e f = absurd (e refl)
      by_kind kind.Indent a b e f = absurd (a refl)
      by_kind kind.Dedent a b e f = absurd (b refl)
      by_kind kind.End a b e f = absurd (f refl)

-- a line behind lines
pub lines_push : (before after : List kept.WordLine) (l : kept.WordLine) → after ≡ before ++ l ∷ [] → map line_seen after ≡ map line_seen before ++ line_seen l ∷ []
lines_push before after l grown = rw grown (map-append line_seen before (l ∷ []))

-- no token is no lexeme
pub no_lexeme : (s : Scanned) (i : ℕ) → None ≡ token_at s i → slice_get s.scan.tokens i ≡ None
no_lexeme s i none = by_lexeme (slice_get s.scan.tokens i) none
  where
    by_lexeme : (o : Option Lexeme) → None ≡ option_map (token_of s.scan) o → o ≡ None
    by_lexeme None e = refl
    by_lexeme (Some x) e = absurd cc
