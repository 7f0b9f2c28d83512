-- The faults of letters and pieces, and which one is told.
use Rattle.std.specs.Prelude.{ℕ, suc, ◌^◌, Bool, false, ◌&&◌, ◌||◌, ◌==◌, nat_lt, nat_le, List, [], ◌∷◌, drop, Option, Some, None, is_none, if◌then◌else◌}
use Rattle.spec_tokens.specs.declared.Fault.{Fault}
use Rattle.spec_tokens.specs.declared.Fault.TheVariants.{BadCharacter, MixedIndent, BadDedent, OpenString, OpenBracket, BigInteger, NumberForm, EscapeForm}
use Rattle.spec_tokens.specs.declared.Kind.{Kind}
use Rattle.spec_tokens.specs.declared.Kind.TheVariants.{Integer, Text, OpenText, Misquoted, Unknown}
use Rattle.spec_tokens.specs.declared.Piece.{Piece}
use Rattle.spec_tokens.specs.declared.Refusal.{Refusal}
use Rattle.spec_tokens.specs.Letters.{continues_name, is_bad}
use Rattle.spec_tokens.specs.Pieces.{spelling}
use Rattle.spec_tokens.specs.Values.{integer_value, is_zero_led, text_value}

-- ---- which refusal is told

abbrev pub number_of : Fault → ℕ
number_of BadCharacter = 1
number_of MixedIndent = 2
number_of BadDedent = 3
number_of OpenString = 4
number_of OpenBracket = 5
number_of BigInteger = 6
number_of NumberForm = 7
number_of EscapeForm = 8

-- a smaller line is before, and on one line a fault of a smaller number
abbrev pub is_before : Refusal → Refusal → Bool
is_before r q = nat_lt r.line q.line || (r.line == q.line && nat_lt (number_of r.fault) (number_of q.fault))

-- of two, the one that is before
abbrev pub earlier : Option Refusal → Option Refusal → Option Refusal
earlier None q = q
earlier (Some r) None = Some r
earlier (Some r) (Some q) = if is_before q r then Some q else Some r

-- the first of refusals
abbrev pub first_of : List Refusal → Option Refusal
first_of [] = None
first_of (r ∷ rs) = earlier (Some r) (first_of rs)

-- ---- letters

-- a carriage return alone and a NUL are bad characters, wherever they stand
unfoldable pub letter_refusals : ℕ → List ℕ → List Refusal
letter_refusals line [] = []
letter_refusals line (c ∷ s) = if is_bad c then record { line = line; fault = BadCharacter } ∷ letter_refusals line s else letter_refusals (if c == 10 then suc line else line) s

-- ---- pieces

-- what must not stand directly behind an integer: `.`, `_` and letters of names
abbrev pub goes_on_badly : List ℕ → Bool
goes_on_badly [] = false
goes_on_badly (c ∷ s) = c == 46 || c == 95 || continues_name c

-- The fault of an integer w before the letters r. It may have both; the one with the smaller number is told.
abbrev pub integer_fault : List ℕ → List ℕ → Option Fault
integer_fault w r = if nat_le (2 ^ 127) (integer_value w) then Some BigInteger else (if is_zero_led w || goes_on_badly r then Some NumberForm else None)

-- the fault of a piece w before the letters r
abbrev pub fault_of : Kind → List ℕ → List ℕ → Option Fault
fault_of Integer w r = integer_fault w r
fault_of Text w r = if is_none (text_value w) then Some EscapeForm else None
fault_of OpenText w r = Some OpenString
fault_of Misquoted w r = Some BadCharacter
fault_of Unknown w r = Some BadCharacter
fault_of _ w r = None

-- a fault at a line, before other refusals
abbrev pub told : Option Fault → ℕ → List Refusal → List Refusal
told None line rs = rs
told (Some f) line rs = record { line = line; fault = f } ∷ rs

unfoldable pub piece_refusals : List ℕ → List Piece → List Refusal
piece_refusals letters [] = []
piece_refusals letters (p ∷ ps) = told (fault_of p.kind (spelling letters p) (drop p.end letters)) p.line (piece_refusals letters ps)
