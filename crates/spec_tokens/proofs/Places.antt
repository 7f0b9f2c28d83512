-- Where the letters of a text end: in order, and between characters of the text.
use Rattle.std.proofs.Common.{◌≡◌, ℕ, zero, suc, ◌+◌, ◌≤◌, Bool, true, false, cond, ◌==◌, List, [], ◌∷◌, ◌++◌, length, get_or, refl, sym, ap, arith, ◌∙◌}
use Rattle.std.specs.Prelude.{⊤, ◌&&◌}
use Rattle.std.specs.Char.{len_utf8}
use Rattle.std.specs.Str.{IsCharBoundary, encode_utf8_all, all_scalars}
use Rattle.std.proofs.Math.Utf8.{scalar, encode}
use Rattle.std.proofs.lemmas.Bool.{and_parts, eqb-true}
use Rattle.std.proofs.lemmas.List.{append-nil, append_assoc, length-append}
use Rattle.std.proofs.lemmas.Str.{length-encode, encodes-append, IsCharBoundary-at_seam}
use Rattle.spec_tokens.specs.Letters.{without_mark, mark_size, read, ends, letters_of, ends_of}

-- ---- places of a text

-- a text is cut in two: n is how many bytes its first part takes, and the second part is made of characters
pub record IsSeam (text : List ℕ) (n : ℕ) (rest : List ℕ) : Type 0 where
  pub front : List ℕ
  pub parts : text ≡ front ++ rest
  pub size : n ≡ length (encode_utf8_all front)
  pub scalars : all_scalars rest ≡ true

-- a character of the second part goes over to the first
seam_more : (text : List ℕ) (n c : ℕ) (rest : List ℕ) → IsSeam text n (c ∷ rest) → IsSeam text (n + len_utf8 c) rest
seam_more text n c rest h = record {
  front = h.front ++ c ∷ [];
  parts = h.parts ∙ sym (append_assoc h.front (c ∷ []) rest);
  size =
      let whole = ap length (encodes-append h.front (c ∷ [])) in
      let both = length-append (encode_utf8_all h.front) (encode_utf8_all (c ∷ [])) in
      let one = ap length (append-nil (encode c)) in
      let own = length-encode c in
      let first = h.size in
      omega arith;
  scalars = (and_parts (scalar c) (all_scalars rest) h.scalars).1;
}

-- a text may be sliced at a seam
seam_boundary : (text : List ℕ) (n : ℕ) (rest : List ℕ) → IsSeam text n rest → IsCharBoundary (encode_utf8_all text) n
seam_boundary text n rest h =
    let whole = ap encode_utf8_all h.parts ∙ encodes-append h.front rest in
    rw h.size (IsCharBoundary-at_seam (encode_utf8_all text) (encode_utf8_all h.front) (encode_utf8_all rest) whole (rest, (h.scalars, refl)))

-- places that do not go down from n, at each of which a text may be sliced
abbrev pub ArePlaces : List ℕ → ℕ → List ℕ → Type 0
ArePlaces text n [] = ⊤
ArePlaces text n (m ∷ ms) = (n ≤ m) × IsCharBoundary (encode_utf8_all text) m × ArePlaces text m ms

-- the places that follow a greater one do not go down from a smaller one
places_lower : (text : List ℕ) (n m : ℕ) (ms : List ℕ) → n ≤ m → ArePlaces text m ms → ArePlaces text n ms
places_lower text n m [] le h = tt
places_lower text n m (k ∷ ms) le h = (omega arith, h.1, h.2)

-- the places from which all those behind them do not go down
place_rises : (text : List ℕ) (n : ℕ) (ms : List ℕ) (i j : ℕ) → ArePlaces text n ms → i ≤ j → j ≤ length ms → get_or (n ∷ ms) i 0 ≤ get_or (n ∷ ms) j 0
place_rises text n ms zero zero h le within = omega arith
place_rises text n [] i (suc j) h le within = absurd (omega arith)
place_rises text n (m ∷ ms) zero (suc j) h le within = let more = place_rises text m ms zero j h.2 (omega arith) (omega arith) in let first = h.0 in omega arith
place_rises text n ms (suc i) zero h le within = absurd (omega arith)
place_rises text n (m ∷ ms) (suc i) (suc j) h le within = place_rises text m ms i j h.2 (omega arith) (omega arith)

-- a text may be sliced at each place
place_boundary : (text : List ℕ) (n : ℕ) (ms : List ℕ) (j : ℕ) → IsCharBoundary (encode_utf8_all text) n → ArePlaces text n ms → j ≤ length ms → IsCharBoundary (encode_utf8_all text) (get_or (n ∷ ms) j 0)
place_boundary text n ms zero here h within = here
place_boundary text n [] (suc j) here h within = absurd (omega arith)
place_boundary text n (m ∷ ms) (suc j) here h within = place_boundary text m ms j h.1 h.2 (omega arith)

-- ---- the ends of letters

-- letters end at places of the text
ends_places : (text : List ℕ) (n : ℕ) (s : List ℕ) → IsSeam text n s → ArePlaces text n (ends n s)
unfolding ends
ends_places text n [] h = tt
ends_places text n (c ∷ []) h = at (c == 10) (seam_boundary text (n + len_utf8 c) [] (seam_more text n c [] h))
  where
    at : (b : Bool) → IsCharBoundary (encode_utf8_all text) (n + len_utf8 c) → ArePlaces text n (cond b ((n + len_utf8 c) ∷ []) ((n + len_utf8 c) ∷ (n + len_utf8 c) ∷ []))
    at true e = (omega arith, e, tt)
    at false e = (omega arith, e, (omega arith, e, tt))
ends_places text n (c ∷ d ∷ s) h =
    let more = seam_more text n c (d ∷ s) h in
    at (c == 13 && d == 10) (seam_boundary text (n + len_utf8 c) (d ∷ s) more) (ends_places text (n + len_utf8 c) (d ∷ s) more)
  where
    at : (b : Bool) → IsCharBoundary (encode_utf8_all text) (n + len_utf8 c) → ArePlaces text (n + len_utf8 c) (ends (n + len_utf8 c) (d ∷ s))
        → ArePlaces text n (cond b (ends (n + len_utf8 c) (d ∷ s)) ((n + len_utf8 c) ∷ ends (n + len_utf8 c) (d ∷ s)))
    at true e later = places_lower text n (n + len_utf8 c) (ends (n + len_utf8 c) (d ∷ s)) (omega arith) later
    at false e later = (omega arith, e, later)

-- each letter has an end
pub ends_size : (n : ℕ) (s : List ℕ) → length (ends n s) ≡ length (read s)
unfolding ends read
ends_size n [] = refl
ends_size n (c ∷ []) = at (c == 10)
  where
    at : (b : Bool) → length (cond b ((n + len_utf8 c) ∷ []) ((n + len_utf8 c) ∷ (n + len_utf8 c) ∷ [])) ≡ length (cond b (c ∷ []) (c ∷ 10 ∷ []))
    at true = refl
    at false = refl
ends_size n (c ∷ d ∷ s) = at (c == 13 && d == 10) (ends_size (n + len_utf8 c) (d ∷ s))
  where
    at : (b : Bool) → length (ends (n + len_utf8 c) (d ∷ s)) ≡ length (read (d ∷ s)) → length (cond b (ends (n + len_utf8 c) (d ∷ s)) ((n + len_utf8 c) ∷ ends (n + len_utf8 c) (d ∷ s))) ≡ length (cond b (read (d ∷ s)) (c ∷ read (d ∷ s)))
    at true e = e
    at false e = ap suc e

-- a text is cut behind its byte order mark
mark_seam : (text : List ℕ) → all_scalars text ≡ true → IsSeam text (mark_size text) (without_mark text)
mark_seam [] h = record { front = []; parts = refl; size = refl; scalars = h }
mark_seam (c ∷ s) h = at (c == 0xFEFF) refl
  where
    at : (b : Bool) → (c == 0xFEFF) ≡ b → IsSeam (c ∷ s) (cond b 3 0) (cond b s (c ∷ s))
    at true e = record {
      front = c ∷ [];
      parts = refl;
      size = rw (eqb-true c 0xFEFF e) (sym (ap length (append-nil (encode 0xFEFF)) ∙ length-encode 0xFEFF));
      scalars = (and_parts (scalar c) (all_scalars s) h).1;
    }
    at false e = record { front = []; parts = refl; size = refl; scalars = h }

-- ---- the places of a scan

-- no place of a text is before an earlier one
pub text_rises : (text : List ℕ) (i j : ℕ) → all_scalars text ≡ true → i ≤ j → j ≤ length (letters_of text) → get_or (mark_size text ∷ ends_of text) i 0 ≤ get_or (mark_size text ∷ ends_of text) j 0
text_rises text i j h le within =
    let size = ends_size (mark_size text) (without_mark text) in
    place_rises text (mark_size text) (ends_of text) i j (ends_places text (mark_size text) (without_mark text) (mark_seam text h)) le (omega arith)

-- a text may be sliced at each of its places
pub text_boundary : (text : List ℕ) (j : ℕ) → all_scalars text ≡ true → j ≤ length (letters_of text) → IsCharBoundary (encode_utf8_all text) (get_or (mark_size text ∷ ends_of text) j 0)
text_boundary text j h within =
    let seam = mark_seam text h in
    let size = ends_size (mark_size text) (without_mark text) in
    place_boundary text (mark_size text) (ends_of text) j (seam_boundary text (mark_size text) (without_mark text) seam) (ends_places text (mark_size text) (without_mark text) seam) (omega arith)
