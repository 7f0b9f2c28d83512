-- What a scan may answer, and what its readers give.
use Rattle.std.specs.Prelude.{◌≡◌, ⊤, ℕ, ◌-◌, List, Option, Some, None, Result, Ok, Err, take, drop, slice_get, get_or, encode_utf8_all, ℤ, pos, chars}
use Rattle.std.specs.Option.{option_map, option_and_then}
use Rattle.spec_tokens.specs.declared.Fault.TheVariants as fault
use Rattle.spec_tokens.specs.declared.Refusal.{Refusal}
use Rattle.spec_tokens.specs.declared.TokenKind.{TokenKind}
use Rattle.spec_tokens.specs.declared.TokenKind.TheVariants.{Name, Int, Str}
use Rattle.spec_tokens.specs.Tokens.{Scan, IsScan}
use Rattle.spec_tokens.specs.Values.{integer_value, text_value}
use Rattle.spec_tokens.specs.WellFormed.{place, spelled}
use Rattle.unicode_normalization.specs.Forms.{nfkc}
use Rattle.py_tokens.specs.declared.errors.TokenError.{TokenError}
use Rattle.py_tokens.specs.declared.errors.TokenError.TheVariants as error
use Rattle.py_tokens.specs.declared.tokens.Token.{Token}

-- a text that is cut into tokens: its bytes, and what they are cut into
pub record Scanned : Type 0 where
  pub bytes : List ℕ
  pub scan : Scan

-- the refusal that an error tells; a want of memory tells none
abbrev pub refusal_of : TokenError → Option Refusal
refusal_of (error.BadCharacter n) = Some (record { line = n; fault = fault.BadCharacter })
refusal_of (error.MixedIndent n) = Some (record { line = n; fault = fault.MixedIndent })
refusal_of (error.BadDedent n) = Some (record { line = n; fault = fault.BadDedent })
refusal_of (error.OpenString n) = Some (record { line = n; fault = fault.OpenString })
refusal_of (error.OpenBracket n) = Some (record { line = n; fault = fault.OpenBracket })
refusal_of (error.BigInteger n) = Some (record { line = n; fault = fault.BigInteger })
refusal_of (error.NumberForm n) = Some (record { line = n; fault = fault.NumberForm })
refusal_of (error.EscapeForm n) = Some (record { line = n; fault = fault.EscapeForm })
refusal_of error.NoMemory = None

abbrev pub IsRefused : List ℕ → Option Refusal → Type 0
IsRefused bytes None = ⊤
IsRefused bytes (Some r) = IsScan (chars bytes) (Err r)

-- the answer is the one defined for the text of these bytes, or a want of memory
abbrev pub IsAnswer : List ℕ → Result Scanned TokenError → Type 0
IsAnswer bytes (Ok s) = (s.bytes ≡ bytes) × IsScan (chars bytes) (Ok s.scan)
IsAnswer bytes (Err e) = IsRefused bytes (refusal_of e)

-- the token of a number, with its place in bytes
abbrev pub token_at : Scanned → ℕ → Option Token
token_at s i = option_map (λ t. record { kind = t.kind; start = place s.scan t.start; end = place s.scan t.end; line = t.line }) (slice_get s.scan.tokens i)

-- the bytes of the token of a number
abbrev pub slice_at : Scanned → ℕ → Option (List ℕ)
slice_at s i = option_map (λ t. take (place s.scan t.end - place s.scan t.start) (drop (place s.scan t.start) s.bytes)) (slice_get s.scan.tokens i)

-- the letters of the token of a number
abbrev pub letters_at : Scanned → ℕ → Option (List ℕ)
letters_at s i = option_map (spelled s.scan.letters) (slice_get s.scan.tokens i)

-- the spaces and tabs that the line begins with on which a token starts
abbrev pub indent_at : Scanned → ℕ → Option ℕ
indent_at s i = option_map (λ t. get_or s.scan.indents (t.line - 1) 0) (slice_get s.scan.tokens i)

abbrev pub if_integer : TokenKind → List ℕ → Option ℤ
if_integer Int w = Some (pos (integer_value w))
if_integer _ w = None

-- the value of a token, where it is an integer
abbrev pub integer_at : Scanned → ℕ → Option ℤ
integer_at s i = option_and_then (λ t. if_integer t.kind (spelled s.scan.letters t)) (slice_get s.scan.tokens i)

abbrev pub if_text : TokenKind → List ℕ → Option (List ℕ)
if_text Str w = text_value w
if_text _ w = None

-- the value of a token, where it is a string
abbrev pub text_at : Scanned → ℕ → Option (List ℕ)
text_at s i = option_and_then (λ t. if_text t.kind (spelled s.scan.letters t)) (slice_get s.scan.tokens i)

abbrev pub if_name : TokenKind → List ℕ → Option (List ℕ)
if_name Name w = Some (encode_utf8_all (nfkc w))
if_name _ w = None

-- the bytes of a token in normalization form KC, where it is a name
abbrev pub name_at : Scanned → ℕ → Option (List ℕ)
name_at s i = option_and_then (λ t. if_name t.kind (spelled s.scan.letters t)) (slice_get s.scan.tokens i)
