-- What integers and strings stand for. Each is given by the letters of its piece.
use Rattle.std.specs.Prelude.{ℕ, zero, suc, ◌+◌, ◌-◌, ◌*◌, Bool, false, ◌&&◌, ◌||◌, ◌==◌, nat_le, nat_lt, min, List, [], ◌∷◌, ◌++◌, length, take, drop, Option, Some, None, if◌then◌else◌}
use Rattle.std.specs.List.{list_any}
use Rattle.std.specs.Option.{option_map}
use Rattle.spec_tokens.specs.Letters.{is_digit, is_hex_digit, is_octal_digit, run}
use Rattle.spec_tokens.specs.Forms.{is_prefix}

-- ---- integers

-- of a digit, in any base
abbrev pub digit_value : ℕ → ℕ
digit_value c = if is_digit c then c - 48 else (if nat_le c 70 then c - 55 else c - 87)

-- the value of digits in a base, behind those with the value n; a `_` counts nothing
unfoldable pub value_onto : ℕ → ℕ → List ℕ → ℕ
value_onto base n [] = n
value_onto base n (c ∷ w) = if c == 95 then value_onto base n w else value_onto base (n * base + digit_value c) w

-- the base that the letter behind a first `0` tells: `x`, `o` or `b`, in either case
abbrev pub base_of : ℕ → ℕ
base_of d = if d == 120 || d == 88 then 16 else (if d == 111 || d == 79 then 8 else (if d == 98 || d == 66 then 2 else 10))

abbrev pub integer_value : List ℕ → ℕ
integer_value [] = 0
integer_value (c ∷ []) = value_onto 10 0 (c ∷ [])
integer_value (c ∷ d ∷ w) = if base_of d == 10 then value_onto 10 0 (c ∷ d ∷ w) else value_onto (base_of d) 0 w

-- a digit other than 0
abbrev pub is_counting : ℕ → Bool
is_counting c = nat_le 49 c && nat_le c 57

-- a decimal integer that begins with 0 and goes on with other digits
abbrev pub is_zero_led : List ℕ → Bool
is_zero_led [] = false
is_zero_led (c ∷ []) = false
is_zero_led (c ∷ d ∷ w) = c == 48 && base_of d == 10 && list_any is_counting (d ∷ w)

-- ---- strings

-- the code point of a character: no surrogate, and at most 10FFFF
abbrev pub is_scalar : ℕ → Bool
is_scalar v = nat_lt v 0xD800 || (nat_lt 0xDFFF v && nat_lt v 0x110000)

-- the value of n hexadecimal digits at the front, behind those with the value v
unfoldable pub hex_value : ℕ → ℕ → List ℕ → Option ℕ
hex_value zero v s = Some v
hex_value (suc n) v [] = None
hex_value (suc n) v (c ∷ s) = if is_hex_digit c then hex_value n (v * 16 + digit_value c) s else None

-- An escape: how many letters behind the backslash belong to it, and what it gives. Some have no value.
abbrev pub Escape : Type 0
Escape = Option (ℕ × List ℕ)

-- an escape of n letters that names a code point
abbrev pub coded : ℕ → Option ℕ → Escape
coded n None = None
coded n (Some v) = if is_scalar v then Some (n, v ∷ []) else None

-- one to three octal digits
abbrev pub octal : List ℕ → Escape
octal s = let n = min 3 (run is_octal_digit s) in coded n (Some (value_onto 8 0 (take n s)))

-- one letter; an unknown escape keeps its backslash
abbrev pub plain_escape : ℕ → List ℕ
plain_escape c = if c == 92 || c == 39 || c == 34 then c ∷ [] else (if c == 97 then 7 ∷ [] else (if c == 98 then 8 ∷ [] else (if c == 102 then 12 ∷ [] else (if c == 110 then 10 ∷ [] else (if c == 114 then 13 ∷ [] else (if c == 116 then 9 ∷ [] else (if c == 118 then 11 ∷ [] else 92 ∷ c ∷ [])))))))

-- the escape of the letters behind a backslash: a line end gives nothing; `x`, `u` and `U` want 2, 4 and 8 hexadecimal digits; `N` has no value here
abbrev pub escape_of : List ℕ → Escape
escape_of [] = Some (0, 92 ∷ [])
escape_of (c ∷ s) =
    if c == 10 then Some (1, [])
    else (if c == 120 then coded 3 (hex_value 2 0 s)
    else (if c == 117 then coded 5 (hex_value 4 0 s)
    else (if c == 85 then coded 9 (hex_value 8 0 s)
    else (if c == 78 then None
    else (if is_octal_digit c then octal (c ∷ s)
    else Some (1, plain_escape c))))))

-- an escape before the rest of a string
abbrev pub before_rest : Escape → (ℕ → Option (List ℕ)) → Option (List ℕ)
before_rest None rest = None
before_rest (Some x) rest = option_map (λ v. x.1 ++ v) (rest x.0)

-- what the inside of a string gives of which n letters are still to be passed
unfoldable pub unescaped : ℕ → List ℕ → Option (List ℕ)
unescaped n [] = Some []
unescaped (suc n) (c ∷ s) = unescaped n s
unescaped zero (c ∷ s) = if c == 92 then before_rest (escape_of s) (λ n. unescaped n s) else option_map (λ v. c ∷ v) (unescaped zero s)

-- whether a string has the prefix `r` or `R`, behind which backslashes stay
abbrev pub is_raw : List ℕ → Bool
is_raw [] = false
is_raw (c ∷ w) = is_prefix (c ∷ [])

abbrev pub unprefixed : List ℕ → List ℕ
unprefixed w = if is_raw w then drop 1 w else w

-- how many quotes a string without its prefix begins with: three, or one
abbrev pub quote_count : List ℕ → ℕ
quote_count (a ∷ b ∷ c ∷ w) = if a == b && b == c then 3 else 1
quote_count _ = 1

-- what stands between the quotes
abbrev pub inside_of : List ℕ → List ℕ
inside_of w = let u = unprefixed w in let n = quote_count u in take (length u - n - n) (drop n u)

-- the string that a literal stands for
abbrev pub text_value : List ℕ → Option (List ℕ)
text_value w = if is_raw w then Some (inside_of w) else unescaped 0 (inside_of w)
