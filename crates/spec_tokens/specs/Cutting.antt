-- Cutting from left to right: the function that reads the pieces off.
use Rattle.std.specs.Prelude.{ℕ, zero, suc, ◌+◌, ◌-◌, Bool, true, false, ◌&&◌, ◌||◌, ◌==◌, nat_eq, List, [], ◌∷◌, length, take, drop, Option, Some, None, if◌then◌else◌}
use Rattle.std.specs.List.{starts_with}
use Rattle.spec_tokens.specs.declared.Bracket.TheVariants.{Round, Square, Curly}
use Rattle.spec_tokens.specs.declared.Kind.{Kind}
use Rattle.spec_tokens.specs.declared.Kind.TheVariants.{Blank, Comment, LineEnd, Join, Name, Integer, Text, Operator, Open, Close, OpenText, Misquoted, Unknown}
use Rattle.spec_tokens.specs.declared.Piece.{Piece}
use Rattle.spec_tokens.specs.Letters.{run, is_blank, is_inline, is_digit, begins_name, continues_name, is_quote}
use Rattle.spec_tokens.specs.Forms.{is_digit_of, quotes_of, is_sign, is_pair, is_triple}
use Rattle.spec_tokens.specs.Pieces.{line_feeds}

-- a kind, and a number of letters
abbrev pub Front : Type 0
Front = Kind × ℕ

-- ---- strings

-- a number of letters, and whether closing quotes end them
abbrev pub Tail : Type 0
Tail = ℕ × Bool

abbrev pub longer : ℕ → Tail → Tail
longer n x = (n + x.0, x.1)

unfoldable mutual
  -- how far a string goes on behind its opening quotes
  pub tail : Bool → ℕ → List ℕ → Tail
  tail long q [] = (0, false)
  tail long q (c ∷ s) =
      if starts_with nat_eq (c ∷ s) (quotes_of long q) then (length (quotes_of long q), true)
      else (if c == 92 then escaped_tail long q s
      else (if long || is_inline c then longer 1 (tail long q s) else (0, false)))

  -- the same at a backslash, behind which a letter is passed
  pub escaped_tail : Bool → ℕ → List ℕ → Tail
  escaped_tail long q [] = (0, false)
  escaped_tail long q (c ∷ s) = longer 2 (tail long q s)

-- a string of which n letters are passed
abbrev pub sized : ℕ → Tail → Front
sized n (m, true) = (Text, n + m)
sized n (m, false) = (OpenText, n + m)

-- the string behind a prefix of n letters and the quote q
abbrev pub string_of : ℕ → ℕ → List ℕ → Front
string_of n q s = if starts_with nat_eq s (q ∷ q ∷ []) then sized (n + 3) (tail true q (drop 2 s)) else sized (n + 1) (tail false q s)

-- ---- names

-- a name of the letter c and n more, before r; a quote directly behind makes it the prefix of a string, or a fault
abbrev pub named : ℕ → ℕ → List ℕ → Front
named c n [] = (Name, suc n)
named c n (d ∷ r) = if is_quote d then (if n == 0 && (c == 114 || c == 82) then string_of 1 d r else (Misquoted, suc (suc n))) else (Name, suc n)

-- ---- integers

abbrev pub starts : (ℕ → Bool) → List ℕ → Bool
starts p [] = false
starts p (c ∷ s) = p c

-- how many letters go on with digits: digits, and one `_` directly before a digit
unfoldable pub digit_run : (ℕ → Bool) → List ℕ → ℕ
digit_run p [] = 0
digit_run p (c ∷ s) = if p c || (c == 95 && starts p s) then suc (digit_run p s) else 0

-- whether digits of the base that the letter d stands for follow it, perhaps behind one `_`
abbrev pub is_based : ℕ → List ℕ → Bool
is_based d [] = false
is_based d (e ∷ s) = is_digit_of d e || (e == 95 && starts (is_digit_of d) s)

-- how many letters the integer has that begins with the digit c
abbrev pub integer_length : ℕ → List ℕ → ℕ
integer_length c [] = 1
integer_length c (d ∷ s) = if c == 48 && is_based d s then suc (suc (digit_run (is_digit_of d) s)) else suc (digit_run is_digit (d ∷ s))

-- ---- operators and brackets

abbrev pub bracket_of : ℕ → Option Kind
bracket_of c = if c == 40 then Some (Open Round) else (if c == 91 then Some (Open Square) else (if c == 123 then Some (Open Curly) else (if c == 41 then Some (Close Round) else (if c == 93 then Some (Close Square) else (if c == 125 then Some (Close Curly) else None)))))

abbrev pub single : ℕ → Front
single c = if is_sign c then (Operator, 1) else (Unknown, 1)

abbrev pub operator_of : ℕ → List ℕ → Front
operator_of c [] = single c
operator_of c (d ∷ []) = if is_pair c d then (Operator, 2) else single c
operator_of c (d ∷ e ∷ s) = if is_triple c d e then (Operator, 3) else (if is_pair c d then (Operator, 2) else single c)

abbrev pub sign_of : Option Kind → ℕ → List ℕ → Front
sign_of (Some k) c s = (k, 1)
sign_of None c s = operator_of c s

-- ---- pieces

abbrev pub join_of : List ℕ → Front
join_of [] = (Unknown, 1)
join_of (c ∷ s) = if c == 10 then (Join, 2) else (Unknown, 1)

-- the piece that starts letters: its kind, and how many letters it has
unfoldable pub piece_of : List ℕ → Front
piece_of [] = (Unknown, 0)
piece_of (c ∷ s) =
    if is_blank c then (Blank, suc (run is_blank s))
    else (if c == 35 then (Comment, suc (run is_inline s))
    else (if c == 10 then (LineEnd, 1)
    else (if c == 92 then join_of s
    else (if is_quote c then string_of 0 c s
    else (if is_digit c then (Integer, integer_length c s)
    else (if begins_name c then named c (run continues_name s) (drop (run continues_name s) s)
    else sign_of (bracket_of c) c s))))))

-- The pieces of letters of which the first n are passed already. What follows them has the number `at` and stands on the line `line`.
unfoldable pub cut : ℕ → ℕ → ℕ → List ℕ → List Piece
cut at line n [] = []
cut at line (suc n) (c ∷ s) = cut at line n s
cut at line zero (c ∷ s) =
    let x = piece_of (c ∷ s) in
    record { kind = x.0; start = at; end = at + x.1; line = line } ∷ cut (at + x.1) (line + line_feeds (take x.1 (c ∷ s))) (x.1 - 1) s

abbrev pub pieces_of : List ℕ → List Piece
pieces_of letters = cut 0 1 zero letters
