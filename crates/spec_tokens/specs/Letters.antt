-- The letters of a text, and what single letters are. A text is a list of code points.
use Rattle.std.specs.Prelude.{ℕ, suc, ◌+◌, Bool, true, false, ◌&&◌, ◌||◌, ◌==◌, nat_le, List, [], ◌∷◌, if◌then◌else◌}
use Rattle.std.specs.Char.{len_utf8}
use Rattle.unicode_ident.specs.Ident.{is_xid_start, is_xid_continue}

-- ---- a text read as letters

-- a leading byte order mark, U+FEFF, is dropped
abbrev pub without_mark : List ℕ → List ℕ
without_mark [] = []
without_mark (c ∷ s) = if c == 0xFEFF then s else c ∷ s

-- how many bytes are dropped with it
abbrev pub mark_size : List ℕ → ℕ
mark_size [] = 0
mark_size (c ∷ s) = if c == 0xFEFF then 3 else 0

-- CR LF ends a line as LF does, and both are read as one LF. A text whose last line lacks a line end is read as if it had one.
unfoldable pub read : List ℕ → List ℕ
read [] = []
read (c ∷ []) = if c == 10 then c ∷ [] else c ∷ 10 ∷ []
read (c ∷ d ∷ s) = if c == 13 && d == 10 then read (d ∷ s) else c ∷ read (d ∷ s)

-- where each letter ends that is read, in bytes, where the text stands behind n bytes; a line end that is missing takes none
unfoldable pub ends : ℕ → List ℕ → List ℕ
ends n [] = []
ends n (c ∷ []) = if c == 10 then (n + len_utf8 c) ∷ [] else (n + len_utf8 c) ∷ (n + len_utf8 c) ∷ []
ends n (c ∷ d ∷ s) = if c == 13 && d == 10 then ends (n + len_utf8 c) (d ∷ s) else (n + len_utf8 c) ∷ ends (n + len_utf8 c) (d ∷ s)

-- the letters of a text
abbrev pub letters_of : List ℕ → List ℕ
letters_of text = read (without_mark text)

-- where the letters of a text end, in bytes of the text
abbrev pub ends_of : List ℕ → List ℕ
ends_of text = ends (mark_size text) (without_mark text)

-- ---- lines

-- letters are cut behind each line feed
abbrev pub begun_with : ℕ → List (List ℕ) → List (List ℕ)
begun_with c [] = (c ∷ []) ∷ []
begun_with c (line ∷ lines) = (c ∷ line) ∷ lines

unfoldable pub lines_of : List ℕ → List (List ℕ)
lines_of [] = []
lines_of (c ∷ s) = if c == 10 then (c ∷ []) ∷ lines_of s else begun_with c (lines_of s)

-- ---- single letters

-- how many letters at the front pass the test
abbrev pub run : (ℕ → Bool) → List ℕ → ℕ
run p [] = 0
run p (c ∷ s) = if p c then suc (run p s) else 0

-- a space or a tab
abbrev pub is_blank : ℕ → Bool
is_blank c = c == 32 || c == 9

-- not a line feed
abbrev pub is_inline : ℕ → Bool
is_inline c = if c == 10 then false else true

abbrev pub is_digit : ℕ → Bool
is_digit c = nat_le 48 c && nat_le c 57

-- A to F, a to f, or a digit
abbrev pub is_hex_digit : ℕ → Bool
is_hex_digit c = is_digit c || (nat_le 65 c && nat_le c 70) || (nat_le 97 c && nat_le c 102)

abbrev pub is_octal_digit : ℕ → Bool
is_octal_digit c = nat_le 48 c && nat_le c 55

-- 0 or 1
abbrev pub is_binary_digit : ℕ → Bool
is_binary_digit c = c == 48 || c == 49

-- a letter that a name may begin with: XID_Start or `_`
abbrev pub begins_name : ℕ → Bool
begins_name c = is_xid_start c || c == 95

-- a letter that a name may go on with
abbrev pub continues_name : ℕ → Bool
continues_name c = is_xid_continue c

-- `'` or `"`
abbrev pub is_quote : ℕ → Bool
is_quote c = c == 39 || c == 34

-- a carriage return that ends no line, or a NUL: bad everywhere
abbrev pub is_bad : ℕ → Bool
is_bad c = c == 13 || c == 0
