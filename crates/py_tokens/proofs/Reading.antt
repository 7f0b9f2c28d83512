-- Turns of the loops over letters.
use Rattle.std.proofs.Common.{◌≡◌, ℕ, suc, ◌+◌, ◌<◌, ◌≤◌, Bool, true, false, cond, ◌&&◌, ◌==◌, List, [], ◌∷◌, ◌++◌, length, take, drop, map, refl, sym, ap, arith, append_assoc}
use Rattle.std.proofs.lemmas.List.{append-nil}
use Rattle.std.specs.Char.{len_utf8}
use Rattle.spec_tokens.specs.Letters.{without_mark, letters_of, read, ends, lines_of, begun_with}
use Rattle.py_tokens.specs.Steps.{read_one, ends_one, first_line}

-- the letters of a text are those of its first one before those behind it
read_first : (c : ℕ) (s : List ℕ) → read (c ∷ s) ≡ read_one c s ++ read s
unfolding read
read_first c [] = sym (append-nil (read_one c []))
read_first c (d ∷ s) = at (c == 13 && d == 10)
  where
    at : (b : Bool) → cond b (read (d ∷ s)) (c ∷ read (d ∷ s)) ≡ cond b [] (c ∷ []) ++ read (d ∷ s)
    at true = refl
    at false = refl

pub read_turn : (codes more rest : List ℕ) (c : ℕ) (s : List ℕ) → rest ≡ c ∷ s → more ≡ codes ++ read_one c s → more ++ read s ≡ codes ++ read rest
read_turn codes more rest c s e m = rw (m, e, read_first c s) (append_assoc codes (read_one c s) (read s))

-- so are the places where they end
ends_first : (n c : ℕ) (s : List ℕ) → ends n (c ∷ s) ≡ ends_one c s (n + len_utf8 c) ++ ends (n + len_utf8 c) s
unfolding ends
ends_first n c [] = sym (append-nil (ends_one c [] (n + len_utf8 c)))
ends_first n c (d ∷ s) = at (c == 13 && d == 10)
  where
    at : (b : Bool) → cond b (ends (n + len_utf8 c) (d ∷ s)) ((n + len_utf8 c) ∷ ends (n + len_utf8 c) (d ∷ s)) ≡ cond b [] ((n + len_utf8 c) ∷ []) ++ ends (n + len_utf8 c) (d ∷ s)
    at true = refl
    at false = refl

pub ends_turn : (places more rest : List ℕ) (n end c : ℕ) (s : List ℕ) → rest ≡ c ∷ s → end ≡ n + len_utf8 c → more ≡ places ++ ends_one c s end → more ++ ends end s ≡ places ++ ends n rest
ends_turn places more rest n end c s r e m = rw (m, e, r, ends_first n c s) (append_assoc places (ends_one c s (n + len_utf8 c)) (ends (n + len_utf8 c) s))

pub read_nothing : (codes rest : List ℕ) → length rest ≡ 0 → codes ++ read rest ≡ codes
unfolding read
read_nothing codes [] e = append-nil codes
read_nothing codes (c ∷ s) e = absurd (omega arith)

pub ends_nothing : (places : List ℕ) (n : ℕ) (rest : List ℕ) → length rest ≡ 0 → places ++ ends n rest ≡ places
unfolding ends
ends_nothing places n [] e = append-nil places
ends_nothing places n (c ∷ s) e = absurd (omega arith)

-- a first line has a letter
pub first_line-size : (s : List ℕ) → 0 < length s → 0 < first_line s
first_line-size [] h = absurd (omega arith)
first_line-size (c ∷ s) h = at (c == 10)
  where
    at : (b : Bool) → 0 < cond b 1 (suc (first_line s))
    at true = omega arith
    at false = omega arith

-- the lines of letters are the first one and those behind it
lines_first : (s : List ℕ) → 0 < length s → lines_of s ≡ take (first_line s) s ∷ lines_of (drop (first_line s) s)
unfolding lines_of
lines_first [] h = absurd (omega arith)
lines_first (c ∷ []) h = at (c == 10)
  where
    at : (b : Bool) → cond b ((c ∷ []) ∷ []) ((c ∷ []) ∷ []) ≡ take (cond b 1 1) (c ∷ []) ∷ lines_of (drop (cond b 1 1) (c ∷ []))
    at true = refl
    at false = refl
lines_first (c ∷ d ∷ s) h = at (c == 10) (lines_first (d ∷ s) (omega arith))
  where
    at : (b : Bool) → lines_of (d ∷ s) ≡ take (first_line (d ∷ s)) (d ∷ s) ∷ lines_of (drop (first_line (d ∷ s)) (d ∷ s))
        → cond b ((c ∷ []) ∷ lines_of (d ∷ s)) (begun_with c (lines_of (d ∷ s))) ≡ take (cond b 1 (suc (first_line (d ∷ s)))) (c ∷ d ∷ s) ∷ lines_of (drop (cond b 1 (suc (first_line (d ∷ s)))) (c ∷ d ∷ s))
    at true e = refl
    at false e = ap (begun_with c) e

-- what is told of each line: of the first one, before those behind it
pub lines_turn : (f : List ℕ → ℕ) (told more rest line after : List ℕ) → 0 < length rest → line ≡ take (first_line rest) rest → after ≡ drop (first_line rest) rest → more ≡ told ++ f line ∷ []
    → more ++ map f (lines_of after) ≡ told ++ map f (lines_of rest)
lines_turn f told more rest line after lt l a m = rw (m, l, a, lines_first rest lt) (append_assoc told (f (take (first_line rest) rest) ∷ []) (map f (lines_of (drop (first_line rest) rest))))

pub no_lines : (f : List ℕ → ℕ) (told s : List ℕ) → length s ≡ 0 → told ++ map f (lines_of s) ≡ told
unfolding lines_of
no_lines f told [] h = append-nil told
no_lines f told (c ∷ s) h = absurd (omega arith)

-- at most one line end is added
read_few : (s : List ℕ) → length (read s) ≤ length s + 1
unfolding read
read_few [] = omega arith
read_few (c ∷ []) = at (c == 10)
  where
    at : (b : Bool) → length (cond b (c ∷ []) (c ∷ 10 ∷ [])) ≤ 2
    at true = omega arith
    at false = omega arith
read_few (c ∷ d ∷ s) = at (c == 13 && d == 10) (read_few (d ∷ s))
  where
    at : (b : Bool) → length (read (d ∷ s)) ≤ length (d ∷ s) + 1 → length (cond b (read (d ∷ s)) (c ∷ read (d ∷ s))) ≤ length (c ∷ d ∷ s) + 1
    at true h = omega arith
    at false h = omega arith

-- without a mark no more is left
mark_few : (s : List ℕ) → length (without_mark s) ≤ length s
mark_few [] = omega arith
mark_few (c ∷ s) = at (c == 0xFEFF)
  where
    at : (b : Bool) → length (cond b s (c ∷ s)) ≤ length (c ∷ s)
    at true = omega arith
    at false = omega arith

pub letters_few : (text : List ℕ) → length (letters_of text) ≤ length text + 1
letters_few text = omega (arith, read_few (without_mark text), mark_few text)
