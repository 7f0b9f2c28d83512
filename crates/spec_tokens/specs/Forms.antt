-- The forms of pieces. `IsForm k w` says that the letters w are a piece of the kind k wherever nothing longer starts there.
use Rattle.std.specs.Prelude.{◌≡◌, ◌≢◌, ℕ, Bool, true, false, ◌&&◌, ◌||◌, ◌==◌, nat_eq, List, [], ◌∷◌, ◌++◌, if◌then◌else◌}
use Rattle.std.specs.List.{list_all, starts_with}
use Rattle.spec_tokens.specs.declared.Bracket.{Bracket}
use Rattle.spec_tokens.specs.declared.Bracket.TheVariants.{Round, Square, Curly}
use Rattle.spec_tokens.specs.declared.Kind.{Kind}
use Rattle.spec_tokens.specs.declared.Kind.TheVariants.{Blank, Comment, LineEnd, Join, Name, Integer, Text, Operator, Open, Close, OpenText, Misquoted, Unknown}
use Rattle.spec_tokens.specs.Letters.{is_blank, is_inline, is_digit, is_hex_digit, is_octal_digit, is_binary_digit, begins_name, continues_name, is_quote}

-- ---- names

abbrev pub is_name : List ℕ → Bool
is_name [] = false
is_name (c ∷ w) = begins_name c && list_all continues_name w

-- `r` or `R`, the prefix of a string whose backslashes stay
abbrev pub is_prefix : List ℕ → Bool
is_prefix [] = false
is_prefix (c ∷ []) = c == 114 || c == 82
is_prefix (c ∷ d ∷ w) = false

-- ---- integers

-- what follows a digit: more digits, each directly or behind one `_`
abbrev pub are_more_digits : (ℕ → Bool) → List ℕ → Bool
are_more_digits p [] = true
are_more_digits p (c ∷ []) = p c
are_more_digits p (c ∷ d ∷ w) = if p c then are_more_digits p (d ∷ w) else c == 95 && p d && are_more_digits p w

-- a digit and more digits
abbrev pub are_digits : (ℕ → Bool) → List ℕ → Bool
are_digits p [] = false
are_digits p (c ∷ w) = p c && are_more_digits p w

-- digits of a base behind its letter, perhaps with one `_` first
abbrev pub are_based : (ℕ → Bool) → List ℕ → Bool
are_based p [] = false
are_based p (c ∷ w) = if c == 95 then are_digits p w else are_digits p (c ∷ w)

-- the digits of the base that `x`, `o` or `b` stands for, in either case; other letters stand for none
abbrev pub is_digit_of : ℕ → ℕ → Bool
is_digit_of b c = if b == 120 || b == 88 then is_hex_digit c else (if b == 111 || b == 79 then is_octal_digit c else ((b == 98 || b == 66) && is_binary_digit c))

-- decimal digits, or `0`, the letter of a base, and digits of that base
abbrev pub is_integer : List ℕ → Bool
is_integer [] = false
is_integer (c ∷ []) = is_digit c
is_integer (c ∷ d ∷ w) = are_digits is_digit (c ∷ d ∷ w) || (c == 48 && are_based (is_digit_of d) w)

-- ---- strings

-- one quote, or three
abbrev pub quotes_of : Bool → ℕ → List ℕ
quotes_of false q = q ∷ []
quotes_of true q = q ∷ q ∷ q ∷ []

-- What follows the opening quotes, up to the closing ones: they are the first ones that no backslash stands before. Within one quote a line goes on only behind a backslash.
pub data IsClosed (long : Bool) (q : ℕ) : List ℕ → Type 0 where
  closed : IsClosed long q (quotes_of long q)
  escape : {c : ℕ} {w : List ℕ} → IsClosed long q w → IsClosed long q (92 ∷ c ∷ w)
  letter : {c : ℕ} {w : List ℕ} → (c == 92) ≡ false → starts_with nat_eq (c ∷ w) (quotes_of long q) ≡ false → (long || is_inline c) ≡ true → IsClosed long q w → IsClosed long q (c ∷ w)

-- What follows the opening quotes, where no closing ones come.
pub data IsOpen (long : Bool) (q : ℕ) : List ℕ → Type 0 where
  end : IsOpen long q []
  escape_open : {c : ℕ} {w : List ℕ} → IsOpen long q w → IsOpen long q (92 ∷ c ∷ w)
  letter_open : {c : ℕ} {w : List ℕ} → (c == 92) ≡ false → starts_with nat_eq (c ∷ w) (quotes_of long q) ≡ false → (long || is_inline c) ≡ true → IsOpen long q w → IsOpen long q (c ∷ w)

-- nothing, `r` or `R`
abbrev pub is_start : List ℕ → Bool
is_start [] = true
is_start (c ∷ w) = is_prefix (c ∷ w)

-- a prefix or none, the opening quotes, and an inside of some form
pub record IsQuoted (Inside : Bool → ℕ → List ℕ → Type 0) (w : List ℕ) : Type 0 where
  pub prefix : List ℕ
  pub long : Bool
  pub quote : ℕ
  pub inside : List ℕ
  pub prefixed : is_start prefix ≡ true
  pub quoted : is_quote quote ≡ true
  pub parts : w ≡ prefix ++ (quotes_of long quote ++ inside)
  pub rest : Inside long quote inside

-- a name that is no prefix, and a quote directly behind it
pub record IsMisquoted (w : List ℕ) : Type 0 where
  pub name : List ℕ
  pub quote : ℕ
  pub named : is_name name ≡ true
  pub other : is_prefix name ≡ false
  pub quoted : is_quote quote ≡ true
  pub parts : w ≡ name ++ quote ∷ []

-- ---- operators and brackets

-- one of + - * / % & | ^ ~ < > , : . ; = @
abbrev pub is_sign : ℕ → Bool
is_sign c = c == 43 || c == 45 || c == 42 || c == 47 || c == 37 || c == 38 || c == 124 || c == 94 || c == 126 || c == 60 || c == 62 || c == 44 || c == 58 || c == 46 || c == 59 || c == 61 || c == 64

-- one of < > = ! + - * % & | ^ : before an equals sign
abbrev pub is_assigning : ℕ → Bool
is_assigning c = c == 60 || c == 62 || c == 61 || c == 33 || c == 43 || c == 45 || c == 42 || c == 37 || c == 38 || c == 124 || c == 94 || c == 58

-- one of * / < > twice
abbrev pub is_doubled : ℕ → Bool
is_doubled c = c == 42 || c == 47 || c == 60 || c == 62

-- ** // << >> -> <= >= == != += -= *= %= &= |= ^= :=
abbrev pub is_pair : ℕ → ℕ → Bool
is_pair c d = (d == 61 && is_assigning c) || (c == d && is_doubled c) || (c == 45 && d == 62)

-- <<= >>= //= ...
abbrev pub is_triple : ℕ → ℕ → ℕ → Bool
is_triple c d e = (e == 61 && c == d && (c == 60 || c == 62 || c == 47)) || (c == 46 && d == 46 && e == 46)

abbrev pub is_operator : List ℕ → Bool
is_operator [] = false
is_operator (c ∷ []) = is_sign c
is_operator (c ∷ d ∷ []) = is_pair c d
is_operator (c ∷ d ∷ e ∷ []) = is_triple c d e
is_operator (c ∷ d ∷ e ∷ f ∷ w) = false

abbrev pub opening : Bracket → ℕ
opening Round = 40
opening Square = 91
opening Curly = 123

abbrev pub closing : Bracket → ℕ
closing Round = 41
closing Square = 93
closing Curly = 125

-- ---- all forms

abbrev pub IsForm : Kind → List ℕ → Type 0
IsForm Blank w = (list_all is_blank w ≡ true) × (w ≢ [])
IsForm Comment w = (v : List ℕ) × (w ≡ 35 ∷ v) × (list_all is_inline v ≡ true)
IsForm LineEnd w = w ≡ 10 ∷ []
IsForm Join w = w ≡ 92 ∷ 10 ∷ []
IsForm Name w = is_name w ≡ true
IsForm Integer w = is_integer w ≡ true
IsForm Text w = IsQuoted IsClosed w
IsForm Operator w = is_operator w ≡ true
IsForm (Open b) w = w ≡ opening b ∷ []
IsForm (Close b) w = w ≡ closing b ∷ []
IsForm OpenText w = IsQuoted IsOpen w
IsForm Misquoted w = IsMisquoted w
IsForm Unknown w = ⊥
