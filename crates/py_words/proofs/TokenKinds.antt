-- The word of a token, by what its readers give.
use Rattle.std.proofs.Common.{◌≡◌, ◌≢◌, ℕ, ◌-◌, List, [], Option, Some, None, Bor, ℤ, pos, nat_abs, refl}
use Rattle.std.specs.Prelude.{get_or}
use Rattle.std.specs.Option.{option_map, option_and_then, option_copied, unwrap_or}
use Rattle.spec_tokens.specs.declared.Lexeme.{Lexeme}
use Rattle.spec_tokens.specs.declared.TokenKind.{TokenKind}
use Rattle.spec_tokens.specs.declared.TokenKind.TheVariants as kind
use Rattle.spec_tokens.specs.Tokens.{Scan}
use Rattle.spec_tokens.specs.Values.{integer_value}
use Rattle.spec_tokens.specs.WellFormed.{place, spelled}
use Rattle.spec_grammar.specs.Words.{Name, Int, Str, Sign}
use Rattle.spec_syntax.specs.TokenWords.{part_of, word_by, mark_of, word_of}
use Rattle.py_tokens.specs.declared.tokens.Token.{Token}
use Rattle.py_tokens.specs.Scanned.{if_name, if_integer}

-- ---- by the kind of a token

name_by : (k : TokenKind) (line indent : ℕ) (w x : List ℕ) → Some x ≡ if_name k w → word_by k line indent w ≡ Name line x
name_by kind.Name line indent w x e = cc
name_by kind.Keyword line indent w x e = absurd cc
name_by kind.Int line indent w x e = absurd cc
name_by kind.Str line indent w x e = absurd cc
name_by kind.Op line indent w x e = absurd cc
name_by kind.Newline line indent w x e = absurd cc
name_by kind.Indent line indent w x e = absurd cc
name_by kind.Dedent line indent w x e = absurd cc
name_by kind.End line indent w x e = absurd cc

integer_by : (k : TokenKind) (line indent : ℕ) (w : List ℕ) (z : ℤ) → Some z ≡ if_integer k w → word_by k line indent w ≡ Int line (nat_abs z)
integer_by kind.Name line indent w z e = absurd cc
integer_by kind.Keyword line indent w z e = absurd cc
integer_by kind.Int line indent w z e = let same : z ≡ pos (integer_value w) = cc in rw same refl
integer_by kind.Str line indent w z e = absurd cc
integer_by kind.Op line indent w z e = absurd cc
integer_by kind.Newline line indent w z e = absurd cc
integer_by kind.Indent line indent w z e = absurd cc
integer_by kind.Dedent line indent w z e = absurd cc
integer_by kind.End line indent w z e = absurd cc

sign_by : (k : TokenKind) (line indent : ℕ) (w : List ℕ) → None ≡ if_name k w → None ≡ if_integer k w → k ≢ kind.Str → word_by k line indent w ≡ Sign line (mark_of w)
sign_by kind.Name line indent w e f g = absurd cc
sign_by kind.Keyword line indent w e f g = refl
sign_by kind.Int line indent w e f g = absurd cc
sign_by kind.Str line indent w e f g = absurd (g refl)
sign_by kind.Op line indent w e f g = refl
sign_by kind.Newline line indent w e f g = refl
sign_by kind.Indent line indent w e f g = refl
sign_by kind.Dedent line indent w e f g = refl
sign_by kind.End line indent w e f g = refl

-- ---- by the lexeme at a place

-- the token of a lexeme
abbrev pub token_of : Scan → Lexeme → Token
token_of s x = record { kind = x.kind; start = place s x.start; end = place s x.end; line = x.line }

pub name_word : (s : Scan) (o : Option Lexeme) (t : Token) (x : List ℕ) → option_map (token_of s) o ≡ Some t → Some x ≡ option_and_then (λ l. if_name l.kind (spelled s.letters l)) o → option_map (word_of s) o ≡ Some (Name t.line x)
unfolding word_of
name_word s None t x token name = absurd cc
name_word s (Some l) t x token name =
    let line : l.line ≡ t.line = cc in rw (name_by l.kind l.line _ (spelled s.letters l) x name, line) refl

pub integer_word : (s : Scan) (o : Option Lexeme) (t : Token) (z : ℤ) → option_map (token_of s) o ≡ Some t → Some z ≡ option_and_then (λ l. if_integer l.kind (spelled s.letters l)) o → option_map (word_of s) o ≡ Some (Int t.line (nat_abs z))
unfolding word_of
integer_word s None t z token value = absurd cc
integer_word s (Some l) t z token value =
    let line : l.line ≡ t.line = cc in rw (integer_by l.kind l.line _ (spelled s.letters l) z value, line) refl

pub string_word : (s : Scan) (o : Option Lexeme) (t : Token) (indent : ℕ) (w : List ℕ) → option_map (token_of s) o ≡ Some t → t.kind ≡ kind.Str → w ≡ unwrap_or (option_map (spelled s.letters) o) [] → indent ≡ unwrap_or (option_map (λ l. get_or s.indents (l.line - 1) 0) o) 0 → option_map (word_of s) o ≡ Some (Str (part_of t.line indent w))
unfolding word_of
string_word s None t indent w token is letters blanks = absurd cc
string_word s (Some l) t indent w token is letters blanks =
    let kind : l.kind ≡ kind.Str = cc in let line : l.line ≡ t.line = cc in rw (kind, letters, blanks, line) refl

pub sign_word : (s : Scan) (o : Option Lexeme) (t : Token) (w : List ℕ) → option_map (token_of s) o ≡ Some t → None ≡ option_and_then (λ l. if_name l.kind (spelled s.letters l)) o → None ≡ option_and_then (λ l. if_integer l.kind (spelled s.letters l)) o → t.kind ≢ kind.Str → w ≡ unwrap_or (option_map (spelled s.letters) o) [] → option_map (word_of s) o ≡ Some (Sign t.line (mark_of w))
unfolding word_of
sign_word s None t w token name value other letters = absurd cc
sign_word s (Some l) t w token name value other letters =
    let no_text : l.kind ≢ kind.Str = λ k. other (let e : t.kind ≡ kind.Str = cc in e) in
    let line : l.line ≡ t.line = cc in rw (letters, sign_by l.kind l.line _ (spelled s.letters l) name value no_text, line) refl

-- what is behind a reference, or behind another one where there is none
pub letters_or : (r d : Bor (List ℕ)) (o : Option (Bor (List ℕ))) (l : Option (List ℕ)) → r ≡ unwrap_or o d → option_copied o ≡ l → r.now ≡ unwrap_or l d.now
letters_or r d None l is seen = rw (is, ← seen) refl
letters_or r d (Some x) l is seen = rw (is, ← seen) refl
